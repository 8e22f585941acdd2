-- Copies at the start of a tick, and outputs at its end.
use Rattle.std.proofs.Common.{◌≡◌, ◌∙◌, ℕ, zero, suc, ◌+◌, ◌≤◌, ◌<◌, min, false, ℤ, List, [], ◌∷◌, ◌++◌, length, take, drop, get_or, slice_set, refl, ap, sym, arith, append-nil}
use Rattle.std.proofs.lemmas.List.{take_more, take_all, drop_more, drop_all}
use Rattle.forec_kernel.specs.declared.shape.VarCopy.{VarCopy}
use Rattle.forec_kernel.specs.declared.shape.Variable.{Variable}
use Rattle.forec_kernel.specs.Values.{copy_of}
use Rattle.forec_kernel.specs.Texts.{put_copy}
use Rattle.forec_kernel.specs.Ticks.{start_copies, with_row, values_of}

start-push : (vs : List Variable) (v : Variable) → start_copies (vs ++ v ∷ []) ≡ start_copies vs ++ record { value = v.start; modified = false } ∷ []
start-push [] v = refl
start-push (x ∷ xs) v = ap (λ l. record { value = x.start; modified = false } ∷ l) (start-push xs v)

pub start_more : (vs : List Variable) (i : ℕ) (d : Variable) (made : List VarCopy) → i < length vs → made ≡ start_copies (take i vs) →
    made ++ record { value = (get_or vs i d).start; modified = false } ∷ [] ≡ start_copies (take (i + 1) vs)
start_more vs i d made h e =
    ap (λ l. l ++ record { value = (get_or vs i d).start; modified = false } ∷ []) e ∙ sym (start-push (take i vs) (get_or vs i d))
    ∙ ap start_copies (sym (take_more vs i d h))

pub row_next : (uses inputs : List ℕ) (row : List ℤ) (i d : ℕ) (z : ℤ) (copies : List VarCopy) → i < length inputs → i < length row →
    with_row uses (drop (i + 1) inputs) (drop (i + 1) row) (put_copy uses copies (get_or inputs i d) (record { value = get_or row i z; modified = false }))
    ≡ with_row uses (drop i inputs) (drop i row) copies
row_next uses inputs row i d z copies p q =
    sym (ap (λ l. with_row uses l (drop i row) copies) (drop_more inputs i d p)
    ∙ ap (λ l. with_row uses (get_or inputs i d ∷ drop (i + 1) inputs) l copies) (drop_more row i z q))

pub row_ends : (uses inputs : List ℕ) (row : List ℤ) (i : ℕ) (copies : List VarCopy) → min (length inputs) (length row) ≤ i →
    with_row uses (drop i inputs) (drop i row) copies ≡ copies
row_ends uses [] row zero copies h = refl
row_ends uses [] row (suc i) copies h = refl
row_ends uses (v ∷ vs) [] zero copies h = refl
row_ends uses (v ∷ vs) [] (suc i) copies h = nothing (drop i vs)
  where
    nothing : (l : List ℕ) → with_row uses l [] copies ≡ copies
    nothing [] = refl
    nothing (x ∷ xs) = refl
row_ends uses (v ∷ vs) (n ∷ ns) zero copies h = absurd (omega arith)
row_ends uses (v ∷ vs) (n ∷ ns) (suc i) copies h = row_ends uses vs ns i copies (omega arith)

values-push : (uses : List ℕ) (copies : List VarCopy) (vs : List ℕ) (v : ℕ) →
    values_of uses copies (vs ++ v ∷ []) ≡ values_of uses copies vs ++ (copy_of uses copies v).value ∷ []
values-push uses copies [] v = refl
values-push uses copies (x ∷ xs) v = ap (λ l. (copy_of uses copies x).value ∷ l) (values-push uses copies xs v)

values_length : (uses : List ℕ) (copies : List VarCopy) (vs : List ℕ) (i : ℕ) → i ≤ length vs → length (values_of uses copies (take i vs)) ≡ i
values_length uses copies vs zero h = refl
values_length uses copies [] (suc i) h = absurd (omega arith)
values_length uses copies (v ∷ vs) (suc i) h = ap suc (values_length uses copies vs i (omega arith))

set_behind : (front : List ℤ) (x y : ℤ) (back : List ℤ) (i : ℕ) → length front ≡ i → slice_set (front ++ x ∷ back) i y ≡ front ++ y ∷ back
set_behind [] x y back zero e = refl
set_behind [] x y back (suc i) e = absurd (omega arith)
set_behind (f ∷ front) x y back zero e = absurd (omega arith)
set_behind (f ∷ front) x y back (suc i) e = ap (λ l. f ∷ l) (set_behind front x y back i (omega arith))

append_more : (front : List ℤ) (y : ℤ) (back : List ℤ) → front ++ y ∷ back ≡ (front ++ y ∷ []) ++ back
append_more [] y back = refl
append_more (f ∷ front) y back = ap (λ l. f ∷ l) (append_more front y back)

pub outputs_next : (uses : List ℕ) (copies : List VarCopy) (vs : List ℕ) (start now : List ℤ) (i d : ℕ) → i < length vs → i < length start →
    now ≡ values_of uses copies (take i vs) ++ drop i start →
    slice_set now i (copy_of uses copies (get_or vs i d)).value ≡ values_of uses copies (take (i + 1) vs) ++ drop (i + 1) start
outputs_next uses copies vs start now i d p q e =
    let front = values_of uses copies (take i vs) in
    let y = (copy_of uses copies (get_or vs i d)).value in
    let x = get_or start i y in
    ap (λ l. slice_set l i y) (e ∙ ap (λ l. front ++ l) (drop_more start i y q))
    ∙ set_behind front x y (drop (i + 1) start) i (values_length uses copies vs i (omega arith))
    ∙ append_more front y (drop (i + 1) start)
    ∙ ap (λ l. l ++ drop (i + 1) start) (sym (values-push uses copies (take i vs) (get_or vs i d)) ∙ ap (values_of uses copies) (sym (take_more vs i d p)))

pub outputs_end : (uses : List ℕ) (copies : List VarCopy) (vs : List ℕ) (start now : List ℤ) (i : ℕ) → length vs ≤ i → length start ≡ length vs →
    now ≡ values_of uses copies (take i vs) ++ drop i start → now ≡ values_of uses copies vs
outputs_end uses copies vs start now i h l e = e ∙ ap (λ z. values_of uses copies z ++ drop i start) (take_all i vs h) ∙ ap (λ z. values_of uses copies vs ++ z) (drop_all i start (omega arith)) ∙ append-nil (values_of uses copies vs)
