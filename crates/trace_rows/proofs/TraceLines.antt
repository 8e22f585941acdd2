-- The first line of what is held and left.
use Rattle.std.proofs.Common.{◌≡◌, ℕ, ◌+◌, ◌<◌, Bool, true, false, cond, List, [], ◌∷◌, ◌++◌, length, take, get_or, refl, sym, ap, subst, ◌∙◌, arith, append_assoc, length-append, eqb-true}
use Rattle.std.specs.List.{slice_split, onto_first, position_or_len, after_first, All, AllByRecursion}
use Rattle.std.proofs.lemmas.List.{take_all, drop_all, length-take, get_or-take}
use Rattle.std.proofs.lemmas.List.Elements.{recursion_from_All, All-from_get_or}
use Rattle.std.proofs.lemmas.List.Splits.{slice_split_at, slice_split_none, slice_split-cons_no, length-slice_split}
use Rattle.std.proofs.lemmas.List.Sums.{fails_before_first, passes_at_first, split_at_first}
use Rattle.trace_rows.specs.Lines.{is_newline, tidy, on_parts, lines_of, whole_lines}
use Rattle.trace_rows.specs.Reader.{HasLine, first_line}

abbrev pub NoNewline : List ℕ → Type 0
NoNewline bs = All (λ b. is_newline b ≡ false) bs

first_of : (ps : List (List ℕ)) → 0 < length ps → (p : List ℕ) × (qs : List (List ℕ)) × (ps ≡ p ∷ qs)
first_of [] h = absurd (omega arith)
first_of (p ∷ ps) h = (p, ps, refl)

first_part : (bs : List ℕ) → (p : List ℕ) × (ps : List (List ℕ)) × (slice_split is_newline bs ≡ p ∷ ps)
first_part bs = first_of (slice_split is_newline bs) (omega (arith, length-slice_split is_newline bs))

pub lines_of-line : (l r : List ℕ) → NoNewline l → lines_of (l ++ 10 ∷ r) ≡ l ∷ lines_of r
unfolding lines_of
lines_of-line l r h =
    let p = first_part r in
    rw (slice_split_at is_newline l 10 r h refl, p.2)

pub whole_lines-line : (l r : List ℕ) → NoNewline l → whole_lines (l ++ 10 ∷ r) ≡ l ∷ whole_lines r
unfolding whole_lines
whole_lines-line l r h =
    let p = first_part r in
    rw (slice_split_at is_newline l 10 r h refl, p.2)

pub lines_of-none : lines_of [] ≡ []
unfolding lines_of
lines_of-none = refl

tidy_some : (l : List ℕ) → 0 < length l → tidy [] l ≡ l ∷ []
tidy_some [] h = absurd (omega arith)
tidy_some (b ∷ bs) h = refl

-- a last line without byte 10
pub lines_of-last : (l : List ℕ) → NoNewline l → 0 < length l → lines_of l ≡ l ∷ []
unfolding lines_of
lines_of-last l h some = rw (slice_split_none is_newline l h) (tidy_some l some)

pub whole_lines-none : (l : List ℕ) → NoNewline l → whole_lines l ≡ []
unfolding whole_lines
whole_lines-none l h = rw (slice_split_none is_newline l h)

slice_split_behind : (l r q : List ℕ) (qs : List (List ℕ)) → AllByRecursion (λ b. is_newline b ≡ false) l → slice_split is_newline r ≡ q ∷ qs → slice_split is_newline (l ++ r) ≡ (l ++ q) ∷ qs
slice_split_behind [] r q qs h e = e
slice_split_behind (b ∷ bs) r q qs h e =
    slice_split-cons_no is_newline b (bs ++ r) h.0 ∙ ap (onto_first b) (slice_split_behind bs r q qs h.1 e)

tidy_first : (qs : List (List ℕ)) (l : List ℕ) → 0 < length l → (lines : List (List ℕ)) × (tidy qs l ≡ l ∷ lines)
tidy_first [] l some = ([], tidy_some l some)
tidy_first (q ∷ qs) l some = (tidy qs q, refl)

-- what begins without a byte 10 has a first line at least that long
pub lines_of-front : (l r : List ℕ) → NoNewline l → 0 < length l → (more : List ℕ) × (lines : List (List ℕ)) × (lines_of (l ++ r) ≡ (l ++ more) ∷ lines)
unfolding lines_of
lines_of-front l r h some =
    let p = first_part r in
    let t = tidy_first p.1 (l ++ p.0) (omega (arith, length-append l p.0)) in
    (p.0, t.0, rw (slice_split_behind l r p.0 p.1 (recursion_from_All _ l h) p.2) t.1)

onto_some : (t : Bool) (b : ℕ) (p : List ℕ) (ps : List (List ℕ)) → (line : List ℕ) × (lines : List (List ℕ)) × (on_parts tidy (cond t ([] ∷ p ∷ ps) ((b ∷ p) ∷ ps)) ≡ line ∷ lines)
onto_some true b p ps = ([], tidy ps p, refl)
onto_some false b p ps = let t = tidy_first ps (b ∷ p) (omega arith) in (b ∷ p, t.0, t.1)

-- where a byte stands there is a line
pub lines_of-some : (b : ℕ) (r : List ℕ) → (line : List ℕ) × (lines : List (List ℕ)) × (lines_of (b ∷ r) ≡ line ∷ lines)
unfolding lines_of
lines_of-some b r =
    let p = first_part r in
    rw p.2 (onto_some (is_newline b) b p.0 p.1)

-- ---- the first line of bytes

pub before_none : (bytes : List ℕ) → NoNewline (first_line bytes)
before_none bytes =
    let n = position_or_len is_newline bytes in
    All-from_get_or (λ b. is_newline b ≡ false) (take n bytes) 0 (λ k h.
    let low : k < n = omega (arith, length-take n bytes) in
    rw (get_or-take n bytes k 0 low) (fails_before_first is_newline bytes k 0 low))

pub has_split : (bytes : List ℕ) → HasLine bytes → bytes ≡ first_line bytes ++ 10 ∷ after_first is_newline bytes
has_split bytes h =
    split_at_first is_newline bytes 0 h
    ∙ ap (λ b. first_line bytes ++ b ∷ after_first is_newline bytes) (eqb-true (get_or bytes (position_or_len is_newline bytes) 0) 10 (passes_at_first is_newline bytes 0 h))

-- bytes that are the last line
pub last_split : (bytes : List ℕ) → (HasLine bytes → ⊥) → (first_line bytes ≡ bytes) × (after_first is_newline bytes ≡ [])
last_split bytes none =
    let n = position_or_len is_newline bytes in (
      take_all n bytes (omega (arith, none)),
      drop_all (n + 1) bytes (omega (arith, none)),
    )

pub lines_of-has : (bytes more : List ℕ) → HasLine bytes → lines_of (bytes ++ more) ≡ first_line bytes ∷ lines_of (after_first is_newline bytes ++ more)
lines_of-has bytes more h =
    ap (λ b. lines_of (b ++ more)) (has_split bytes h) ∙ ap lines_of (append_assoc (first_line bytes) (10 ∷ after_first is_newline bytes) more)
    ∙ lines_of-line (first_line bytes) (after_first is_newline bytes ++ more) (before_none bytes)

pub whole_lines-has : (bytes more : List ℕ) → HasLine bytes → whole_lines (bytes ++ more) ≡ first_line bytes ∷ whole_lines (after_first is_newline bytes ++ more)
whole_lines-has bytes more h =
    ap (λ b. whole_lines (b ++ more)) (has_split bytes h) ∙ ap whole_lines (append_assoc (first_line bytes) (10 ∷ after_first is_newline bytes) more)
    ∙ whole_lines-line (first_line bytes) (after_first is_newline bytes ++ more) (before_none bytes)

pub whole_lines-has_none : (bytes : List ℕ) → (HasLine bytes → ⊥) → whole_lines bytes ≡ []
whole_lines-has_none bytes none = whole_lines-none bytes (subst NoNewline (last_split bytes none).0 (before_none bytes))

pub lines_of-at_end : (bytes : List ℕ) → (HasLine bytes → ⊥) → 0 < length bytes → lines_of bytes ≡ first_line bytes ∷ lines_of (after_first is_newline bytes)
lines_of-at_end bytes none some =
    let s = last_split bytes none in
    lines_of-last bytes (subst NoNewline s.0 (before_none bytes)) some ∙ sym (ap (λ l. l ∷ lines_of (after_first is_newline bytes)) s.0 ∙ ap (λ r. bytes ∷ lines_of r) s.1 ∙ ap (λ ls. bytes ∷ ls) lines_of-none)
