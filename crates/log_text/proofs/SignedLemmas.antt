-- Numbers with a sign.
use Rattle.std.proofs.Common.{◌≡◌, ℕ, zero, suc, ◌+◌, ◌^◌, ◌<◌, ◌≤◌, List, [], ◌∷◌, ◌++◌, ℤ, pos, negsuc, neg_ℤ, FitsSigned, length, get_or, drop, refl, sym, ap, ◌∙◌, arith}
use Rattle.std.specs.Int.{w32}
use Rattle.std.specs.Char.{digit_value}
use Rattle.std.specs.Fmt.{decimal, signed_decimal}
use Rattle.std.specs.Str.Parse.{IsNumeral}
use Rattle.std.proofs.lemmas.Fmt.{decimal_is_IsNumeral}
use Rattle.std.proofs.lemmas.List.{get_or-drop, drop-drop}
use Rattle.log_text.specs.Pieces.{EndsDigits}
use Rattle.log_text.specs.Numbers.{IsNumberAt}
use Rattle.log_text.proofs.DigitLemmas.{decimal_once}
use Rattle.log_text.proofs.PieceLemmas.{stands_byte, stands_more}

digits_first : (ds rest : List ℕ) → IsNumeral 10 ds → digit_value (get_or (ds ++ rest) 0 0) < 10
digits_first [] rest h = absurd (omega (arith, h.0))
digits_first (d ∷ ds) rest h = h.1.0

-- the first byte of a number is a digit
pub decimal_first : (n : ℕ) (rest : List ℕ) → n < 2 ^ 64 → digit_value (get_or (decimal n ++ rest) 0 0) < 10
decimal_first n rest small = digits_first (decimal n) rest (decimal_is_IsNumeral n small).0

pub first_at : (bytes xs : List ℕ) (at : ℕ) → drop at bytes ≡ xs → get_or bytes at 0 ≡ get_or xs 0 0
first_at bytes xs at e = ap (λ (k : ℕ). get_or bytes k 0) (omega arith) ∙ (sym (get_or-drop at bytes 0 0) ∙ ap (λ (l : List ℕ). get_or l 0 0) e)

pub room_at : (bytes xs : List ℕ) (at b : ℕ) → drop at bytes ≡ b ∷ xs → at < length bytes
room_at [] xs zero b e = absurd (cc)
room_at [] xs (suc at) b e = absurd (cc)
room_at (c ∷ bytes) xs zero b e = omega arith
room_at (c ∷ bytes) xs (suc at) b e = omega (arith, room_at bytes xs at b e)

pub one_on : (bytes xs : List ℕ) (at b : ℕ) → drop at bytes ≡ b ∷ xs → drop (at + 1) bytes ≡ xs
one_on bytes xs at b e = sym (drop-drop 1 at bytes) ∙ ap (λ (l : List ℕ). drop 1 l) e

pub minus_stands : (bytes : List ℕ) (at end n : ℕ) → at < length bytes → get_or bytes at 0 ≡ 45 → IsNumberAt bytes (at + 1) (decimal n) end → 0 < n → IsNumberAt bytes at (signed_decimal (neg_ℤ (pos n))) end
minus_stands bytes at end zero low minus h some = absurd (omega arith)
minus_stands bytes at end (suc n) low minus h some = record {
  stands = stands_more bytes at (at + 1) end (45 ∷ []) (decimal (suc n)) (stands_byte bytes at 45 low minus) h.stands;
  ends = h.ends;
}

-- what a number without a sign is
pub plain_is : (bytes rest : List ℕ) (at : ℕ) (n : ℤ) → FitsSigned w32 n → (at < length bytes → get_or bytes at 0 ≡ 45 → ⊥) → drop at bytes ≡ signed_decimal n ++ rest → (m : ℕ) × (n ≡ pos m) × (m ≤ 2147483647) × (drop at bytes ≡ decimal m ++ rest)
plain_is bytes rest at (pos m) fits plain e = (m, refl, omega (arith, fits.sfits), e)
plain_is bytes rest at (negsuc m) fits plain e = absurd (plain (room_at bytes (decimal (suc m) ++ rest) at 45 e) (first_at bytes (45 ∷ (decimal (suc m) ++ rest)) at e))

pub minus_is : (bytes rest : List ℕ) (at : ℕ) (n : ℤ) → FitsSigned w32 n → get_or bytes at 0 ≡ 45 → drop at bytes ≡ signed_decimal n ++ rest → (m : ℕ) × (0 < m) × (n ≡ neg_ℤ (pos m)) × (m ≤ 2147483648) × (drop (at + 1) bytes ≡ decimal m ++ rest)
minus_is bytes rest at (pos m) fits minus e =
    let low : m < 2 ^ 64 = omega (arith, fits.sfits) in
    let same : get_or (decimal m ++ rest) 0 0 ≡ 45 = sym (first_at bytes (decimal m ++ rest) at e) ∙ minus in
    absurd (let bad : digit_value 45 < 10 = rw same at (decimal_first m rest low) in omega arith)
minus_is bytes rest at (negsuc m) fits minus e = (suc m, omega arith, refl, omega (arith, fits.sfits), one_on bytes (decimal (suc m) ++ rest) at 45 e)

pub signed_once : (a b : ℤ) (x y : List ℕ) → FitsSigned w32 a → FitsSigned w32 b → EndsDigits x → EndsDigits y → signed_decimal a ++ x ≡ signed_decimal b ++ y → (a ≡ b) × (x ≡ y)
signed_once (pos m) (pos n) x y p q h k e = let r = decimal_once m n x y (omega (arith, p.sfits)) (omega (arith, q.sfits)) h k e in (ap pos r.0, r.1)
signed_once (pos m) (negsuc n) x y p q h k e =
    absurd (let same : get_or (decimal m ++ x) 0 0 ≡ 45 = ap (λ (l : List ℕ). get_or l 0 0) e in let bad : digit_value 45 < 10 = rw same at (decimal_first m x (omega (arith, p.sfits))) in omega arith)
signed_once (negsuc m) (pos n) x y p q h k e =
    absurd (let same : get_or (decimal n ++ y) 0 0 ≡ 45 = sym (ap (λ (l : List ℕ). get_or l 0 0) e) in let bad : digit_value 45 < 10 = rw same at (decimal_first n y (omega (arith, q.sfits))) in omega arith)
signed_once (negsuc m) (negsuc n) x y p q h k e =
    let r = decimal_once (suc m) (suc n) x y (omega (arith, p.sfits)) (omega (arith, q.sfits)) h k (ap (λ (l : List ℕ). drop 1 l) e) in
    let same : m ≡ n = omega (arith, r.0) in (ap negsuc same, r.1)
