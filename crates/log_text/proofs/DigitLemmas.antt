-- A number's digits, and that a text begins with one number at most.
use Rattle.std.proofs.Common.{◌≡◌, ℕ, zero, suc, ◌-◌, ◌^◌, ◌<◌, ◌≤◌, List, [], ◌∷◌, ◌++◌, true, false, length, get_or, drop, refl, sym, ap, ◌∙◌, arith, inl, inr, lt-ltb, le-ltb, add-zero}
use Rattle.std.specs.Char.{is_ascii_digit}
use Rattle.std.proofs.lemmas.Bool.{cases_lt}
use Rattle.std.proofs.lemmas.Bool.Decides.{nat_tests}
use Rattle.std.proofs.lemmas.List.{get_or-drop, drop_all}
use Rattle.std.proofs.lemmas.Str.Parse.{digit_from_value}
use Rattle.std.specs.Char.{digit_value}
use Rattle.std.specs.Fmt.{decimal}
use Rattle.std.specs.Str.Parse.{AllDigits, digits_value}
use Rattle.std.proofs.lemmas.Fmt.{decimal_is_IsNumeral, decimal_digit, first_decimal, decimal-digits_value}
use Rattle.std.proofs.lemmas.Str.Parse.{numerals_by_value, tells_digits}
use Rattle.log_text.specs.Pieces.{EndsDigits, IsDecimal}

-- where two texts of digits stand in front of what is no digit, they are the same
pub digits_once : (ds es x y : List ℕ) → AllDigits 10 ds → AllDigits 10 es → EndsDigits x → EndsDigits y → ds ++ x ≡ es ++ y → (ds ≡ es) × (x ≡ y)
digits_once [] [] x y p q h k e = (refl, e)
digits_once [] (b ∷ es) x y p q h k e = absurd (let same : get_or x 0 0 ≡ b = ap (λ (l : List ℕ). get_or l 0 0) e in omega (arith, q.0, rw same at h))
digits_once (a ∷ ds) [] x y p q h k e = absurd (let same : get_or y 0 0 ≡ a = sym (ap (λ (l : List ℕ). get_or l 0 0) e) in omega (arith, p.0, rw same at k))
digits_once (a ∷ ds) (b ∷ es) x y p q h k e =
    let rest = digits_once ds es x y p.1 q.1 h k (ap (λ (l : List ℕ). drop 1 l) e) in
    let same : a ≡ b = ap (λ (l : List ℕ). get_or l 0 0) e in
    let first : ds ≡ es = rest.0 in
    (cc, rest.1)

pub decimal_is : (n : ℕ) → n < 2 ^ 64 → IsDecimal (decimal n) n
decimal_is zero small = record {
  numeral = (decimal_is_IsNumeral 0 small).0;
  front = λ _. ap (λ (l : List ℕ). length l) (decimal_digit 0 (omega arith));
  value = (decimal_is_IsNumeral 0 small).1;
}
decimal_is (suc n) small = record {
  numeral = (decimal_is_IsNumeral (suc n) small).0;
  front = λ e. absurd (omega (arith, first_decimal (suc n) (omega arith) small));
  value = (decimal_is_IsNumeral (suc n) small).1;
}

pub digits_are : (digits : List ℕ) (n : ℕ) → IsDecimal digits n → n < 2 ^ 64 → digits ≡ decimal n
digits_are digits n d small =
    let e = decimal-digits_value (numerals_by_value (AllDigits 10) tells_digits) digits d.numeral.1 d.numeral.0 d.front (omega (arith, d.value)) in
    sym e ∙ ap decimal d.value

-- the same for the numbers that they spell
pub number_once : (ds es x y : List ℕ) (m n : ℕ) → IsDecimal ds m → IsDecimal es n → EndsDigits x → EndsDigits y → ds ++ x ≡ es ++ y → (m ≡ n) × (x ≡ y)
number_once ds es x y m n p q h k e =
    let same = digits_once ds es x y p.numeral.1 q.numeral.1 h k e in
    (sym p.value ∙ (ap (digits_value 10) same.0 ∙ q.value), same.1)

pub decimal_once : (m n : ℕ) (x y : List ℕ) → m < 2 ^ 64 → n < 2 ^ 64 → EndsDigits x → EndsDigits y → decimal m ++ x ≡ decimal n ++ y → (m ≡ n) × (x ≡ y)
decimal_once m n x y p q h k e = number_once (decimal m) (decimal n) x y m n (decimal_is m p) (decimal_is n q) h k e

-- ---- reading digit by digit

pub digit_is : (b : ℕ) → 48 ≤ b → b ≤ 57 → digit_value b ≡ b - 48
digit_is b low high = rw (le-ltb b 48 low, lt-ltb b 58 (omega arith)) refl

pub ascii_range : (b : ℕ) → is_ascii_digit b ≡ true → (48 ≤ b) × (b ≤ 57)
ascii_range b e = (grind (arith, nat_tests), grind (arith, nat_tests))

pub no_digit : (b : ℕ) → is_ascii_digit b ≡ false → 10 ≤ digit_value b
no_digit b e = elim (cases_lt (digit_value b) 10) [
  | inl low ↦ absurd (let r = digit_from_value b low in grind (arith, nat_tests))
  | inr high ↦ high
]

pub ends_there : (bytes : List ℕ) (at : ℕ) → (at < length bytes → is_ascii_digit (get_or bytes at 0) ≡ false) → EndsDigits (drop at bytes)
ends_there bytes at h = elim (cases_lt at (length bytes)) [
  | inl low ↦ (rw (get_or-drop at bytes 0 0, add-zero) (no_digit (get_or bytes at 0) (h low)))
  | inr past ↦ (rw (drop_all at bytes past) (omega arith))
]
