-- One turn of the loops over digits, over a comment and over the bytes of a piece.
use Rattle.std.proofs.Common.{◌≡◌, ℕ, suc, ◌+◌, ◌*◌, ◌<◌, ◌≤◌, Bool, true, false, nat_eq, nat_le, List, ◌∷◌, length, drop, get_or, Some, None, add-one, drop-cons, arith, codes}
use Rattle.std.specs.List.{starts_with}
use Rattle.std.proofs.lemmas.List.{drop_all}
use Rattle.std.proofs.lemmas.Bool.Decides.{nat_tests}
use Rattle.forec_tree.specs.Lexis.{digit_of, is_digit_in}
use Rattle.forec_lexer.specs.Reading.{close_from, value_from}

abbrev closes : List ℕ → Bool
closes text = starts_with nat_eq text (codes "*/")

pub close_here : (text : List ℕ) (i : ℕ) → i < length text → starts_with nat_eq (drop i text) (codes "*/") ≡ true → close_from i (drop i text) ≡ Some (i + 2)
unfolding close_from
close_here text i h e = by (drop i text) (drop-cons text i 0 h) e
  where
    by : (t : List ℕ) → t ≡ get_or text i 0 ∷ drop (suc i) text → closes t ≡ true → close_from i t ≡ Some (i + 2)
    by t f e = let g = rw f at e in rw (f, g)

pub close_later : (text : List ℕ) (i : ℕ) → i < length text → starts_with nat_eq (drop i text) (codes "*/") ≡ false → close_from i (drop i text) ≡ close_from (i + 1) (drop (i + 1) text)
unfolding close_from
close_later text i h e = by (drop i text) (drop-cons text i 0 h) e
  where
    by : (t : List ℕ) → t ≡ get_or text i 0 ∷ drop (suc i) text → closes t ≡ false → close_from i t ≡ close_from (i + 1) (drop (i + 1) text)
    by t f e = let g = rw f at e in rw (f, g, add-one)

pub close_nowhere : (text : List ℕ) (i : ℕ) → length text ≤ i → close_from i (drop i text) ≡ None
unfolding close_from
close_nowhere text i h = rw (drop_all i text h)

pub value_stops : (digits : List ℕ) (base value i digit : ℕ) → i < length digits → digit ≡ digit_of (get_or digits i 0) → base ≤ digit → value_from base value (drop i digits) ≡ None
unfolding value_from
value_stops digits base value i digit h is le =
    let e : is_digit_in base (get_or digits i 0) ≡ false = grind (arith, nat_tests) in
    by e
  where
    by : is_digit_in base (get_or digits i 0) ≡ false → value_from base value (drop i digits) ≡ None
    by e = rw (drop-cons digits i 0, e)

pub value_large : (digits : List ℕ) (base value i digit : ℕ) → i < length digits → digit ≡ digit_of (get_or digits i 0) → digit < base → 4294967295 < value * base + digit
    → value_from base value (drop i digits) ≡ None
unfolding value_from
value_large digits base value i digit h is lt large =
    let e : is_digit_in base (get_or digits i 0) ≡ true = grind (arith, nat_tests) in
    let f : nat_le (value * base + digit_of (get_or digits i 0)) 4294967295 ≡ false = rw is at (not_le (value * base + digit) large) in
    by e f
  where
    not_le : (n : ℕ) → 4294967295 < n → nat_le n 4294967295 ≡ false
    not_le n h = grind (arith, nat_tests)

    by : is_digit_in base (get_or digits i 0) ≡ true → nat_le (value * base + digit_of (get_or digits i 0)) 4294967295 ≡ false → value_from base value (drop i digits) ≡ None
    by e f = rw (drop-cons digits i 0, e, f)

pub value_goes : (digits : List ℕ) (base value i digit : ℕ) → i < length digits → digit ≡ digit_of (get_or digits i 0) → digit < base → value * base + digit ≤ 4294967295
    → value_from base value (drop i digits) ≡ value_from base (value * base + digit) (drop (i + 1) digits)
unfolding value_from
value_goes digits base value i digit h is lt small =
    let e : is_digit_in base (get_or digits i 0) ≡ true = grind (arith, nat_tests) in
    let f : nat_le (value * base + digit_of (get_or digits i 0)) 4294967295 ≡ true = rw is at (is_le (value * base + digit) small) in
    rw is (by e f)
  where
    is_le : (n : ℕ) → n ≤ 4294967295 → nat_le n 4294967295 ≡ true
    is_le n h = grind (arith, nat_tests)

    by : is_digit_in base (get_or digits i 0) ≡ true → nat_le (value * base + digit_of (get_or digits i 0)) 4294967295 ≡ true
        → value_from base value (drop i digits) ≡ value_from base (value * base + digit_of (get_or digits i 0)) (drop (i + 1) digits)
    by e f = rw (drop-cons digits i 0, e, f, add-one)

pub value_ends : (digits : List ℕ) (base value i : ℕ) → length digits ≤ i → value_from base value (drop i digits) ≡ Some value
unfolding value_from
value_ends digits base value i h = rw (drop_all i digits h)
