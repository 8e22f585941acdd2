-- Numbers of one digit or two.
use Rattle.std.proofs.Common.{◌≡◌, ℕ, ◌+◌, ◌*◌, ◌^◌, ◌<◌, List, [], ◌∷◌, ◌++◌, length, get_or, drop, sym, subst, ◌∙◌, arith, false, Option, None, Some, is_some, IfNone}
use Rattle.std.specs.Char.{digit_value}
use Rattle.std.specs.Fmt.{decimal}
use Rattle.std.proofs.lemmas.Fmt.{decimal_digit}
use Rattle.log_text.specs.Pieces.{StandsTo, EndsDigits}
use Rattle.log_text.specs.Numbers.{IsNumberAt}
use Rattle.log_text.proofs.DigitLemmas.{digit_is, digits_are, decimal_once}
use Rattle.log_text.proofs.PieceLemmas.{stands_byte, stands_more}

pub one_stands : (bytes : List ℕ) (at d : ℕ) → d < 10 → at < length bytes → get_or bytes at 0 ≡ 48 + d → EndsDigits (drop (at + 1) bytes) → IsNumberAt bytes at (decimal d) (at + 1)
one_stands bytes at d few low e stop =
    subst (λ (l : List ℕ). IsNumberAt bytes at l (at + 1)) (sym (decimal_digit d few)) (record { stands = stands_byte bytes at (48 + d) low e; ends = stop })

digit_of : (d : ℕ) → d < 10 → digit_value (48 + d) ≡ d
digit_of d few = digit_is (48 + d) (omega arith) (omega arith) ∙ omega arith

two_are : (a b : ℕ) → 0 < a → a < 10 → b < 10 → (48 + a) ∷ (48 + b) ∷ [] ≡ decimal (10 * a + b)
two_are a b some few less =
    digits_are ((48 + a) ∷ (48 + b) ∷ []) (10 * a + b) (record {
      numeral = (omega arith, (omega (arith, digit_of a few), (omega (arith, digit_of b less), tt)));
      front = λ e. absurd (let same : 48 + a ≡ 48 = e in omega arith);
      value = let x = digit_of a few in let y = digit_of b less in omega arith;
    }) (omega arith)

pub two_stand : (bytes : List ℕ) (at a b : ℕ) → 0 < a → a < 10 → b < 10 → at < length bytes → get_or bytes at 0 ≡ 48 + a → at + 1 < length bytes → get_or bytes (at + 1) 0 ≡ 48 + b →
    EndsDigits (drop (at + 2) bytes) → IsNumberAt bytes at (decimal (10 * a + b)) (at + 2)
two_stand bytes at a b some few less low e low' e' stop =
    let last : StandsTo bytes (at + 1) ((48 + b) ∷ []) (at + 2) = subst (λ (k : ℕ). StandsTo bytes (at + 1) ((48 + b) ∷ []) k) (omega arith) (stands_byte bytes (at + 1) (48 + b) low' e') in
    subst (λ (l : List ℕ). IsNumberAt bytes at l (at + 2)) (two_are a b some few less)
    (record { stands = stands_more bytes at (at + 1) (at + 2) ((48 + a) ∷ []) ((48 + b) ∷ []) (stands_byte bytes at (48 + a) low e) last; ends = stop })

pub no_more : (P : Type 0) (o : Option ℕ) → is_some o ≡ false → IfNone o P → P
no_more P None e h = h
no_more P (Some x) e h = absurd (cc)

-- a number that stands at a place is the one with which the bytes begin
pub only_number : (bytes rest : List ℕ) (at m end n : ℕ) → m < 2 ^ 64 → n < 2 ^ 64 → IsNumberAt bytes at (decimal m) end → EndsDigits rest → drop at bytes ≡ decimal n ++ rest → (m ≡ n) × (drop end bytes ≡ rest)
only_number bytes rest at m end n small low h stop e = decimal_once m n (drop end bytes) rest small low h.ends stop (sym h.stands.text ∙ e)
