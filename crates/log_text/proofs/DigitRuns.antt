-- Digits that are read one by one.
use Rattle.std.proofs.Common.{◌≡◌, ℕ, ◌+◌, ◌-◌, ◌*◌, ◌^◌, ◌<◌, ◌≤◌, List, ◌++◌, Option, Some, SomeIff, length, get_or, drop, take, refl, sym, ap, ◌∙◌, arith}
use Rattle.std.specs.Char.{digit_value}
use Rattle.std.specs.Str.Parse.{digits_value}
use Rattle.std.proofs.lemmas.List.{length-take-le, length-drop, get_or-drop, get_or-take, drop-drop, take-append-drop}
use Rattle.std.proofs.lemmas.Int.Digits.{digits_more, digits_value_more}
use Rattle.log_text.specs.Pieces.{EndsDigits, IsDecimal}
use Rattle.log_text.specs.Numbers.{HasDigits, DigitsTo}
use Rattle.log_text.proofs.DigitLemmas.{digits_once, digit_is}

pub one_digit_more : (bytes : List ℕ) (at end b : ℕ) (value next : Option ℕ) → DigitsTo bytes at end value → end < length bytes → get_or bytes end 0 ≡ b → 48 ≤ b → b ≤ 57 →
    ((n : ℕ) → SomeIff value (n < 2 ^ 64) n → SomeIff next (n * 10 + (b - 48) < 2 ^ 64) (n * 10 + (b - 48))) → DigitsTo bytes at (end + 1) next
one_digit_more bytes at end b value next d low e first last step =
    let bs = drop at bytes in
    let i = end - at in
    let few : i < length bs = omega (arith, length-drop at bytes, d.low) in
    let one : end + 1 - at ≡ i + 1 = omega (arith, d.low) in
    let here : get_or bs i 0 ≡ b = get_or-drop at bytes i 0 ∙ (ap (λ (k : ℕ). get_or bytes k 0) (omega (arith, d.low)) ∙ e) in
    let digit : digit_value (get_or bs i 0) ≡ b - 48 = ap digit_value here ∙ digit_is b first last in
    let more : digits_value 10 (take (i + 1) bs) ≡ digits_value 10 (take i bs) * 10 + (b - 48) =
    digits_value_more 10 bs i few ∙ ap (λ (n : ℕ). digits_value 10 (take i bs) * 10 + n) digit in
    record {
      low = omega (arith, d.low);
      within = omega arith;
      digits = rw one (digits_more 10 bs i few d.digits (omega arith));
      spells = rw (one, more) (step (digits_value 10 (take i bs)) d.spells);
    }

pub short_more : (n d b : ℕ) → n < 1152921504606846976 → d ≡ b - 48 → b ≤ 57 → (m : ℕ) → SomeIff (Some n) (m < 2 ^ 64) m → SomeIff (Some (n * 10 + d)) (m * 10 + (b - 48) < 2 ^ 64) (m * 10 + (b - 48))
short_more n d b low is last m h = (omega (arith, low, last, h.1), omega (arith, is, h.1))

spot : (bytes : List ℕ) (at end : ℕ) → at ≤ end → drop (end - at) (drop at bytes) ≡ drop end bytes
spot bytes at end low = drop-drop (end - at) at bytes ∙ ap (λ (k : ℕ). drop k bytes) (omega arith)

long : (bytes : List ℕ) (at end : ℕ) → at ≤ end → end ≤ length bytes → length (take (end - at) (drop at bytes)) ≡ end - at
long bytes at end low within = length-take-le (end - at) (drop at bytes) (omega (arith, length-drop at bytes))

pub digits_stand : (bytes : List ℕ) (at end : ℕ) (value : Option ℕ) → DigitsTo bytes at end value → EndsDigits (drop end bytes) → at < end → (get_or bytes at 0 ≡ 48 → end ≡ at + 1) →
    HasDigits bytes at (record { value = value; end = end })
digits_stand bytes at end value d stop some front =
    let bs = drop at bytes in
    let digits = take (end - at) bs in
    let size : length digits ≡ end - at = long bytes at end d.low d.within in
    let first : get_or digits 0 0 ≡ get_or bytes at 0 = get_or-take (end - at) bs 0 0 (omega arith) ∙ (get_or-drop at bytes 0 0 ∙ ap (λ (k : ℕ). get_or bytes k 0) (omega arith)) in
    record {
      digits = digits;
      number = digits_value 10 digits;
      decimal = record {
        numeral = (omega arith, d.digits);
        front = λ e. omega (arith, front (sym first ∙ e));
        value = refl;
      };
      is = record {
        stands = record {
          within = d.within;
          place = omega (arith, d.low);
          text = sym (take-append-drop (end - at) bs) ∙ ap (λ (l : List ℕ). digits ++ l) (spot bytes at end d.low);
        };
        ends = stop;
      };
      value = d.spells;
    }

pub digits_only : (bytes : List ℕ) (at end n : ℕ) (value : Option ℕ) (digits rest : List ℕ) → DigitsTo bytes at end value → EndsDigits (drop end bytes) → IsDecimal digits n → EndsDigits rest →
    drop at bytes ≡ digits ++ rest → (digits ≡ take (end - at) (drop at bytes)) × (drop end bytes ≡ rest)
digits_only bytes at end n value digits rest d stop is stop' e =
    let bs = drop at bytes in
    let text : digits ++ rest ≡ take (end - at) bs ++ drop end bytes = sym e ∙ (sym (take-append-drop (end - at) bs) ∙ ap (λ (l : List ℕ). take (end - at) bs ++ l) (spot bytes at end d.low)) in
    let same = digits_once digits (take (end - at) bs) rest (drop end bytes) is.numeral.1 d.digits stop' stop text in
    (same.0, sym same.1)

pub digits_long : (bytes : List ℕ) (at end : ℕ) (value : Option ℕ) (digits : List ℕ) → DigitsTo bytes at end value → digits ≡ take (end - at) (drop at bytes) → length digits ≡ end - at
digits_long bytes at end value digits d e = ap (λ (l : List ℕ). length l) e ∙ long bytes at end d.low d.within

pub digits_value_is : (bytes : List ℕ) (at end n : ℕ) (value : Option ℕ) (digits : List ℕ) → DigitsTo bytes at end value → IsDecimal digits n → digits ≡ take (end - at) (drop at bytes) → SomeIff value (n < 2 ^ 64) n
digits_value_is bytes at end n value digits d is e =
    let same : n ≡ digits_value 10 (take (end - at) (drop at bytes)) = sym is.value ∙ ap (digits_value 10) e in
    rw same d.spells

-- a zero stands at the front, and more digits behind it
pub leading_zero : (bytes : List ℕ) (at end n : ℕ) (value : Option ℕ) (digits : List ℕ) → DigitsTo bytes at end value → IsDecimal digits n → digits ≡ take (end - at) (drop at bytes) → at + 1 < end → get_or bytes at 0 ≡ 48 → ⊥
leading_zero bytes at end n value digits d is e long zero_there =
    let bs = drop at bytes in
    let first : get_or digits 0 0 ≡ 48 = ap (λ (l : List ℕ). get_or l 0 0) e ∙ (get_or-take (end - at) bs 0 0 (omega arith) ∙ (get_or-drop at bytes 0 0 ∙ (ap (λ (k : ℕ). get_or bytes k 0) (omega arith) ∙ zero_there))) in
    let size = digits_long bytes at end value digits d e in
    omega (arith, is.front first)
