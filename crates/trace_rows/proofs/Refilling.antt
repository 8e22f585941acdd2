-- What is held when a piece has come.
use Rattle.std.proofs.Common.{◌≡◌, ℕ, ◌+◌, ◌<◌, ◌≤◌, not, Bool, true, false, List, [], ◌∷◌, ◌++◌, Option, Some, None, length, take, refl, sym, ap, subst, ◌∙◌, arith, append-nil, append_assoc}
use Rattle.std.specs.List.{slice_range, position_or_len}
use Rattle.std.specs.Io.KnownBytes.{Consumes, Keeps}
use Rattle.std.proofs.lemmas.List.Sums.{prefix_len-le-length}
use Rattle.trace_rows.specs.Lines.{is_newline}
use Rattle.trace_rows.specs.Reader.{HasLine, Came}
use Rattle.trace_rows.proofs.Ranges.{length-range, range_front, range_both, position_behind}

-- what stayed lost nothing
pub consumes_nothing : (a b : Option (List ℕ)) → Keeps a b → Consumes a b []
consumes_nothing None b h = tt
consumes_nothing (Some x) None h = h
consumes_nothing (Some x) (Some y) h = sym h

pub consumes_refl : (a : Option (List ℕ)) → Consumes a a []
consumes_refl None = tt
consumes_refl (Some x) = refl

pub consumes_both : (a b c : Option (List ℕ)) (x y : List ℕ) → Consumes a b x → Consumes b c y → Consumes a c (x ++ y)
consumes_both None b c x y h k = tt
consumes_both (Some s) None c x y h k = absurd h
consumes_both (Some s) (Some t) None x y h k = k
consumes_both (Some s) (Some t) (Some u) x y h k = h ∙ ap (λ r. x ++ r) k ∙ sym (append_assoc x y u)

pub came_start : (w : List ℕ) (a : Option (List ℕ)) → Came w w a a
came_start w a = record { bytes = []; held = sym (append-nil w); source = consumes_refl a }

-- what came over two calls
pub came_both : (w w' w'' : List ℕ) (a b c : Option (List ℕ)) → Came w w' a b → Came w' w'' b c → Came w w'' a c
came_both w w' w'' a b c f s =
    record {
      bytes = f.bytes ++ s.bytes;
      held = s.held ∙ ap (λ x. x ++ s.bytes) f.held ∙ append_assoc w f.bytes s.bytes;
      source = consumes_both a b c f.bytes s.bytes f.source s.source;
    }

-- where no whole line is held no byte 10 is
pub no_line : (w : List ℕ) → (HasLine w → ⊥) → position_or_len is_newline w ≡ length w
no_line w none = omega (arith, none, prefix_len-le-length (λ b. not (is_newline b)) w)

-- a piece after what is held
pub held_more : (B C : List ℕ) (from end count : ℕ) → from ≤ end → end + count ≤ length C → take end C ≡ take end B →
    slice_range C from (end + count) ≡ slice_range B from end ++ slice_range C end (end + count)
held_more B C from end count low within front =
    range_both C from end (end + count) low (omega arith) within ∙ ap (λ w. w ++ slice_range C end (end + count)) (range_front B C from end front)

pub stop_more : (B C : List ℕ) (from end count : ℕ) → from ≤ end → end ≤ length B → end + count ≤ length C → take end C ≡ take end B → (HasLine (slice_range B from end) → ⊥) →
    end + position_or_len is_newline (slice_range C end (end + count)) ≡ from + position_or_len is_newline (slice_range C from (end + count))
stop_more B C from end count low short within front none =
    let w : List ℕ = slice_range B from end in
    let piece : List ℕ = slice_range C end (end + count) in
    let whole = ap (position_or_len is_newline) (held_more B C from end count low within front) ∙ position_behind is_newline w piece (no_line w none) in
    omega (arith, whole, length-range B from end short)

by_first : (x : ℕ) (xs ys : List ℕ) (b : Bool) → is_newline x ≡ b → HasLine (x ∷ xs) → (HasLine xs → HasLine (xs ++ ys)) → HasLine ((x ∷ xs) ++ ys)
by_first x xs ys true e h rest = rw e (omega arith)
by_first x xs ys false e h rest = let low : 1 + position_or_len is_newline xs < length (x ∷ xs) = rw e at h in let more = rest (omega (arith, low)) in rw e (omega (arith, more))

-- a whole line that is held stays one
pub has_line_more : (xs ys : List ℕ) → HasLine xs → HasLine (xs ++ ys)
has_line_more [] ys h = absurd (omega (arith, h))
has_line_more (x ∷ xs) ys h = by_first x xs ys (is_newline x) refl h (has_line_more xs ys)

-- where no whole line is held none was before
pub none_before : (w w' : List ℕ) (a b : Option (List ℕ)) → Came w w' a b → (HasLine w' → ⊥) → HasLine w → ⊥
none_before w w' a b came none h = none (subst HasLine (sym came.held) (has_line_more w came.bytes h))
