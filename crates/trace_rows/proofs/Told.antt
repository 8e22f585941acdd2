-- What is told of the lines that are held and left.
use Rattle.std.proofs.Common.{◌≡◌, inl, inr, ℕ, ◌<◌, Bool, true, false, List, [], ◌∷◌, ◌++◌, Option, Some, None, length, refl, sym, ap, subst, ◌∙◌, arith, append_assoc, append-nil, length-append}
use Rattle.std.specs.List.{position_or_len, after_first}
use Rattle.std.specs.Io.KnownBytes.{Consumes, IsAtEnd}
use Rattle.std.proofs.lemmas.Bool.{cases_lt}
use Rattle.trace_rows.specs.Calls.{IfTold}
use Rattle.trace_rows.specs.Lines.{is_newline, lines_of}
use Rattle.trace_rows.specs.Reader.{HasLine, Came, Takes, first_line}
use Rattle.trace_rows.specs.Trace.{most_line_bytes}
use Rattle.trace_rows.proofs.TraceLines.{lines_of-has, lines_of-at_end, lines_of-none, lines_of-front, lines_of-some, before_none, last_split, NoNewline}

pub told_of : (a b : Option (List ℕ)) (bs : List ℕ) (P : List ℕ → List ℕ → Type 0) → Consumes a b bs → ((x y : List ℕ) → x ≡ bs ++ y → P x y) → IfTold a b P
told_of None b bs P h f = tt
told_of (Some x) None bs P h f = h
told_of (Some x) (Some y) bs P h f = f x y h

pub told_end : (a b : Option (List ℕ)) (bs : List ℕ) (P : List ℕ → List ℕ → Type 0) → Consumes a b bs → IsAtEnd b → ((x y : List ℕ) → x ≡ bs ++ y → y ≡ [] → P x y) → IfTold a b P
told_end None b bs P h e f = tt
told_end (Some x) None bs P h e f = h
told_end (Some x) (Some y) bs P h e f = f x y h e

pub told_map : (a b : Option (List ℕ)) (P Q : List ℕ → List ℕ → Type 0) → IfTold a b P → ((x y : List ℕ) → P x y → Q x y) → IfTold a b Q
told_map None b P Q h f = tt
told_map (Some x) None P Q h f = h
told_map (Some x) (Some y) P Q h f = f x y h

-- what was held and is left, where these bytes came
held_left : (w bytes came x y : List ℕ) → bytes ≡ w ++ came → x ≡ came ++ y → w ++ x ≡ bytes ++ y
held_left w bytes came x y e h = ap (λ r. w ++ r) h ∙ sym (append_assoc w came y) ∙ ap (λ r. r ++ y) (sym e)

-- a line was taken
abbrev pub LineOf : List ℕ → List ℕ → List ℕ → List ℕ → List ℕ → Type 0
LineOf line w w' x y = lines_of (w ++ x) ≡ line ∷ lines_of (w' ++ y)

line_inside : (w bytes came x y : List ℕ) → bytes ≡ w ++ came → x ≡ came ++ y → HasLine bytes → LineOf (first_line bytes) w (after_first is_newline bytes) x y
line_inside w bytes came x y e h line = ap lines_of (held_left w bytes came x y e h) ∙ lines_of-has bytes y line

line_last : (w bytes came x y : List ℕ) → bytes ≡ w ++ came → x ≡ came ++ y → y ≡ [] → (HasLine bytes → ⊥) → 0 < length bytes → LineOf (first_line bytes) w (after_first is_newline bytes) x y
line_last w bytes came x y e h z none some =
    ap lines_of (held_left w bytes came x y e h ∙ ap (λ r. bytes ++ r) z ∙ append-nil bytes) ∙ lines_of-at_end bytes none some
    ∙ ap (λ r. first_line bytes ∷ lines_of r) (sym (append-nil (after_first is_newline bytes)) ∙ ap (λ r. after_first is_newline bytes ++ r) (sym z))

by_end : (w bytes w' : List ℕ) (ended : Bool) (a b : Option (List ℕ)) → Came w bytes a b → 0 < length bytes → (ended ≡ true → IsAtEnd b) → (HasLine bytes → ⊥) → ended ≡ true →
    IfTold a b (LineOf (first_line bytes) w (after_first is_newline bytes))
by_end w bytes w' ended a b c some at_end none e =
    told_end a b c.bytes (LineOf (first_line bytes) w (after_first is_newline bytes)) c.source (at_end e) (λ x y h z. line_last w bytes c.bytes x y c.held h z none some)

not_false : (b : Bool) → (b ≡ false → ⊥) → b ≡ true
not_false true f = refl
not_false false f = absurd (f refl)

pub line_told : (line w w' : List ℕ) (ended : Bool) (a b : Option (List ℕ)) → Takes line w w' ended a b → (ended ≡ true → IsAtEnd b) → IfTold a b (LineOf line w w')
line_told line w w' ended a b t at_end =
    let bytes = t.bytes in
    let c = t.came in
    rw (t.line_is, t.rest) (elim (cases_lt (position_or_len is_newline bytes) (length bytes)) [
      | inl has ↦ told_of a b c.bytes (LineOf (first_line bytes) w (after_first is_newline bytes)) c.source (λ x y h. line_inside w bytes c.bytes x y c.held h has)
      | inr past ↦ (let none : HasLine bytes → ⊥ = λ h. omega arith in by_end w bytes w' ended a b c t.some at_end none (not_false ended (λ f. none (t.whole f))))
    ])

-- a line that is too long stands there
abbrev pub LongLine : List ℕ → List ℕ → List ℕ → Type 0
LongLine w x y = (line : List ℕ) × (lines : List (List ℕ)) × (lines_of (w ++ x) ≡ line ∷ lines) × (most_line_bytes < length line)

long_inside : (w bytes came x y : List ℕ) → bytes ≡ w ++ came → x ≡ came ++ y → most_line_bytes < length (first_line bytes) → LongLine w x y
long_inside w bytes came x y e h long =
    elim (cases_lt (position_or_len is_newline bytes) (length bytes)) [
      | inl has ↦ (first_line bytes, lines_of (after_first is_newline bytes ++ y), line_inside w bytes came x y e h has, long)
      | inr past ↦ (let none : HasLine bytes → ⊥ = λ h. omega arith in
          let all = (last_split bytes none).0 in
          let f = lines_of-front bytes y (subst (λ (l : List ℕ). NoNewline l) all (before_none bytes)) (omega (arith, ap length all)) in
          (bytes ++ f.0, f.1, ap lines_of (held_left w bytes came x y e h) ∙ f.2, omega (arith, ap length all, length-append bytes f.0)))
    ]

pub long_told : (w bytes : List ℕ) (a b : Option (List ℕ)) → Came w bytes a b → most_line_bytes < length (first_line bytes) → IfTold a b (LongLine w)
long_told w bytes a b c long = told_of a b c.bytes (LongLine w) c.source (λ x y h. long_inside w bytes c.bytes x y c.held h long)

pub end_told : (w bytes : List ℕ) (a b : Option (List ℕ)) → Came w bytes a b → bytes ≡ [] → IsAtEnd b → IfTold a b (λ x y. lines_of (w ++ x) ≡ [])
end_told w bytes a b c e at_end =
    told_end a b c.bytes (λ x y. lines_of (w ++ x) ≡ []) c.source at_end (λ x y h z.
    ap lines_of (held_left w bytes c.bytes x y c.held h ∙ ap (λ r. bytes ++ r) z ∙ append-nil bytes ∙ e) ∙ lines_of-none)

-- some line stands there
abbrev pub SomeLine : List ℕ → List ℕ → List ℕ → Type 0
SomeLine w x y = (line : List ℕ) × (lines : List (List ℕ)) × (lines_of (w ++ x) ≡ line ∷ lines)

some_line : (bytes : List ℕ) → 0 < length bytes → (line : List ℕ) × (lines : List (List ℕ)) × (lines_of bytes ≡ line ∷ lines)
some_line [] some = absurd (omega arith)
some_line (b ∷ bs) some = lines_of-some b bs

pub some_told : (w bytes : List ℕ) (a b : Option (List ℕ)) → Came w bytes a b → 0 < length bytes → IfTold a b (SomeLine w)
some_told w bytes a b c some =
    told_of a b c.bytes (SomeLine w) c.source (λ x y h.
    let s = some_line (bytes ++ y) (omega (arith, length-append bytes y)) in
    (s.0, s.1, ap lines_of (held_left w bytes c.bytes x y c.held h) ∙ s.2))

-- where the first line was found, it can be taken
pub takes_first : (line w w' bytes : List ℕ) (ended : Bool) (a b : Option (List ℕ)) → Came w bytes a b → 0 < length bytes → (ended ≡ false → HasLine bytes) →
    line ≡ first_line bytes → w' ≡ after_first is_newline bytes → Takes line w w' ended a b
takes_first line w w' bytes ended a b came some whole e r = record { bytes = bytes; came = came; some = some; line_is = e; rest = r; whole = whole }
