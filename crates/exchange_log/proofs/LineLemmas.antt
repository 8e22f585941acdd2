-- Lines as they are put, number by number.
use Rattle.std.proofs.Common.{◌≡◌, ℕ, zero, suc, ◌+◌, ◌-◌, ◌<◌, ◌≤◌, ◌^◌, min, max, ℤ, pos, List, [], ◌∷◌, ◌++◌, map, length, drop, get_or, codes, refl, sym, ap, ◌∙◌, arith, append_assoc, append-nil}
use Rattle.std.specs.Prelude.{slice_get, Some}
use Rattle.std.specs.Fmt.{signed_decimal}
use Rattle.std.proofs.lemmas.List.{drop_all}
use Rattle.forec_kernel.specs.declared.shape.VarCopy.{VarCopy}
use Rattle.forec_kernel.specs.declared.shape.ThreadShape.{ThreadShape}
use Rattle.forec_kernel.specs.Shapes.{plain_thread}
use Rattle.forec_kernel.specs.Solo.{values_in}
use Rattle.exchange_meaning.specs.LogLines.{spaced_numbers, marked_numbers}
use Rattle.exchange_log.specs.Lines.{unset, marked_number, thread_room, greatest_room}

-- one piece more, in a text whose front was `before`
pub step_on : (before one rest now all left : List ℕ) → now ≡ before ++ one → left ≡ one ++ rest → before ++ left ≡ all → now ++ rest ≡ all
step_on before one rest now all left e f g = ap (λ x. x ++ rest) e ∙ append_assoc before one rest ∙ ap (λ x. before ++ x) (sym f) ∙ g

pub numbers_step : (ns : List ℤ) (i : ℕ) → i < length ns → spaced_numbers (drop i ns) ≡ (codes " " ++ signed_decimal (get_or ns i (pos 0))) ++ spaced_numbers (drop (i + 1) ns)
numbers_step [] i lt = absurd (omega (arith, lt))
numbers_step (n ∷ ns) zero lt = refl
numbers_step (n ∷ ns) (suc i) lt =
    let e : suc (i + 1) ≡ suc i + 1 = omega arith in
    numbers_step ns i (omega (arith, lt)) ∙ ap (λ m. (codes " " ++ signed_decimal (get_or ns i (pos 0))) ++ spaced_numbers (drop m (n ∷ ns))) e

pub numbers_end : (ns : List ℤ) (i : ℕ) (now all : List ℕ) → length ns ≤ i → now ++ spaced_numbers (drop i ns) ≡ all → now ≡ all
numbers_end ns i now all le e = sym (append-nil now) ∙ ap (λ l. now ++ spaced_numbers l) (sym (drop_all i ns le)) ∙ e

pub values_step : (ns : List VarCopy) (i : ℕ) → i < length ns → spaced_numbers (values_in (drop i ns)) ≡ (codes " " ++ signed_decimal (get_or ns i unset).value) ++ spaced_numbers (values_in (drop (i + 1) ns))
values_step [] i lt = absurd (omega (arith, lt))
values_step (n ∷ ns) zero lt = refl
values_step (n ∷ ns) (suc i) lt =
    let e : suc (i + 1) ≡ suc i + 1 = omega arith in
    values_step ns i (omega (arith, lt)) ∙ ap (λ m. (codes " " ++ signed_decimal (get_or ns i unset).value) ++ spaced_numbers (values_in (drop m (n ∷ ns)))) e

pub values_end : (ns : List VarCopy) (i : ℕ) (now all : List ℕ) → length ns ≤ i → now ++ spaced_numbers (values_in (drop i ns)) ≡ all → now ≡ all
values_end ns i now all le e = sym (append-nil now) ∙ ap (λ (l : List VarCopy). now ++ spaced_numbers (values_in l)) (sym (drop_all i ns le)) ∙ e

pub copies_step : (ns : List VarCopy) (i : ℕ) → i < length ns → marked_numbers (drop i ns) ≡ marked_number (get_or ns i unset) ++ marked_numbers (drop (i + 1) ns)
copies_step [] i lt = absurd (omega (arith, lt))
copies_step (n ∷ ns) zero lt = refl
copies_step (n ∷ ns) (suc i) lt =
    let e : suc (i + 1) ≡ suc i + 1 = omega arith in
    copies_step ns i (omega (arith, lt)) ∙ ap (λ m. marked_number (get_or ns i unset) ++ marked_numbers (drop m (n ∷ ns))) e

pub copies_end : (ns : List VarCopy) (i : ℕ) (now all : List ℕ) → length ns ≤ i → now ++ marked_numbers (drop i ns) ≡ all → now ≡ all
copies_end ns i now all le e = sym (append-nil now) ∙ ap (λ l. now ++ marked_numbers l) (sym (drop_all i ns le)) ∙ e

-- ---- the greatest room

abbrev most_counted : ℕ
most_counted = 2 ^ 64 - 1

pub rooms_step : (ts : List ThreadShape) (t room r new all : ℕ) → t < length ts → ((s : ThreadShape) → slice_get ts t ≡ Some s → r ≡ min (thread_room (plain_thread s)) most_counted) → new ≡ max room r →
    min (max room (greatest_room (map plain_thread (drop t ts)))) most_counted ≡ min all most_counted → min (max new (greatest_room (map plain_thread (drop (t + 1) ts)))) most_counted ≡ min all most_counted
rooms_step [] t room r new all lt h n e = absurd (omega (arith, lt))
rooms_step (x ∷ ts) zero room r new all lt h n e = let is = h x refl in omega (arith, is, n, e)
rooms_step (x ∷ ts) (suc t) room r new all lt h n e =
    let s : suc (t + 1) ≡ suc t + 1 = omega arith in
    ap (λ m. min (max new (greatest_room (map plain_thread (drop m (x ∷ ts))))) most_counted) (sym s) ∙ rooms_step ts t room r new all (omega (arith, lt)) h n e

pub rooms_end : (ts : List ThreadShape) (t room all : ℕ) → length ts ≤ t → room ≤ most_counted → 128 ≤ room → min (max room (greatest_room (map plain_thread (drop t ts)))) most_counted ≡ min all most_counted → room ≡ min all most_counted
rooms_end ts t room all le fits least e =
    let none = ap (λ l. greatest_room (map plain_thread l)) (drop_all t ts le) in omega (arith, none, fits, least, e)

pub rooms_begin : (ts : List ThreadShape) → 128 ≤ greatest_room (map plain_thread ts)
rooms_begin [] = omega arith
rooms_begin (t ∷ ts) = omega arith
