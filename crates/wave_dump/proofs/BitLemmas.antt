-- The bits of a number.
use Rattle.std.proofs.Common.{◌≡◌, ℕ, zero, suc, ◌+◌, ◌-◌, ◌*◌, ◌/◌, ◌%◌, ◌^◌, ◌<◌, true, ◌⊎◌, inl, inr, List, [], ◌∷◌, ◌++◌, length, ℤ, fold, refl, sym, ap, ap₂, subst, ◌∙◌, arith, FitsSigned, w32, eqb-true, ◌==◌}
use Rattle.std.specs.Int.{cast_signed, cast_unsigned}
use Rattle.std.specs.List.{AllByRecursion}
use Rattle.std.proofs.lemmas.Bool.{or_cases}
use Rattle.std.proofs.lemmas.Int.{of_z-to_z, to_z-of_z, ints}
use Rattle.std.proofs.Math.Nat.{pow-succ'}
use Rattle.wave_dump.specs.Wave.{low_bits, value_bits}
use Rattle.wave_dump.specs.Machine.{is_bit, number_of_bits, value_of_bits}
use Rattle.wave_dump.proofs.Tools.{all_push, length_pushed}

abbrev pub AreBits : List ℕ → Type 0
AreBits bs = AllByRecursion (λ b. is_bit b ≡ true) bs

-- a list by its last item
pub data Pushed (bs : List ℕ) : Type 0 where
  Empty : bs ≡ [] → Pushed bs
  Last : (front : List ℕ) (b : ℕ) → bs ≡ front ++ b ∷ [] → Pushed bs

pub pushed : (bs : List ℕ) → Pushed bs
pushed [] = Empty refl
pushed (b ∷ bs) = elim (pushed bs) [
  | Empty e ↦ Last [] b (ap (λ xs. b ∷ xs) e)
  | Last front c e ↦ Last (b ∷ front) c (ap (λ xs. b ∷ xs) e)
]

pub fold_pushed : (n : ℕ) (bs : List ℕ) (b : ℕ) → fold (λ n b. 2 * n + (b - 48)) n (bs ++ b ∷ []) ≡ 2 * fold (λ n b. 2 * n + (b - 48)) n bs + (b - 48)
fold_pushed n [] b = refl
fold_pushed n (c ∷ bs) b = fold_pushed (2 * n + (c - 48)) bs b

pub number_pushed : (bs : List ℕ) (b : ℕ) → number_of_bits (bs ++ b ∷ []) ≡ 2 * number_of_bits bs + (b - 48)
number_pushed bs b = fold_pushed 0 bs b

-- the bits of a number spell it
pub number_is : (k n : ℕ) → n < 2 ^ k → number_of_bits (low_bits k n) ≡ n
number_is zero n low = omega arith
number_is (suc k) n low =
    let low' : n < 2 * 2 ^ k = subst (λ (m : ℕ). n < m) (pow-succ' 2 k) low in
    let half : n / 2 < 2 ^ k = omega arith in
    let ih : number_of_bits (low_bits k (n / 2)) ≡ n / 2 = number_is k (n / 2) half in
    number_pushed (low_bits k (n / 2)) (48 + n % 2) ∙ omega arith

pub length_bits : (k n : ℕ) → length (low_bits k n) ≡ k
length_bits zero n = refl
length_bits (suc k) n = length_pushed (low_bits k (n / 2)) (48 + n % 2) ∙ ap suc (length_bits k (n / 2))

bit_of : (b : ℕ) → b < 2 → is_bit (48 + b) ≡ true
bit_of zero l = refl
bit_of (suc zero) l = refl
bit_of (suc (suc b)) l = absurd (omega arith)

pub bits_are : (k n : ℕ) → AreBits (low_bits k n)
bits_are zero n = tt
bits_are (suc k) n = all_push (λ b. is_bit b ≡ true) (low_bits k (n / 2)) (48 + n % 2) (bits_are k (n / 2)) (bit_of (n % 2) (omega arith))

pub bit_cases : (b : ℕ) → is_bit b ≡ true → (b ≡ 48) ⊎ (b ≡ 49)
bit_cases b h = elim (or_cases (b == 48) (b == 49) h) [
  | inl e ↦ inl (eqb-true b 48 e)
  | inr e ↦ inr (eqb-true b 49 e)
]

all_but_last : (bs : List ℕ) (b : ℕ) → AreBits (bs ++ b ∷ []) → AreBits bs × (is_bit b ≡ true)
all_but_last [] b h = (tt, h.0)
all_but_last (c ∷ bs) b h = let r = all_but_last bs b h.1 in ((h.0, r.0), r.1)

-- bits are those of the number that they spell
pub bits_again : (k : ℕ) (bs : List ℕ) → length bs ≡ k → AreBits bs → (number_of_bits bs < 2 ^ k) × (low_bits k (number_of_bits bs) ≡ bs)
bits_again zero [] e h = (omega arith, refl)
bits_again zero (b ∷ bs) e h = absurd (omega arith)
bits_again (suc k) bs e h = elim (pushed bs) [
  | Empty f ↦ absurd (let l : length bs ≡ 0 = ap length f in omega arith)
  | Last front b f ↦ (
      let parts = all_but_last front b (subst AreBits f h) in
      let len : length front ≡ k = (let l : length bs ≡ suc (length front) = ap length f ∙ length_pushed front b in omega arith) in
      let ih = bits_again k front len parts.0 in
      let number : number_of_bits bs ≡ 2 * number_of_bits front + (b - 48) = ap number_of_bits f ∙ number_pushed front b in
      let low : b - 48 < 2 = elim (bit_cases b parts.1) [ inl g ↦ rw g (omega arith) | inr g ↦ rw g (omega arith) ] in
      let whole : 48 + (b - 48) ≡ b = elim (bit_cases b parts.1) [ inl g ↦ rw g refl | inr g ↦ rw g refl ] in
      let n = number_of_bits bs in
      let half : n / 2 ≡ number_of_bits front = omega arith in
      let odd : 48 + n % 2 ≡ b = omega arith in
      let small : number_of_bits front < 2 ^ k = ih.0 in
      let small' : n < 2 * 2 ^ k = omega arith in
      (subst (λ (m : ℕ). n < m) (sym (pow-succ' 2 k)) small', ap₂ (λ (xs : List ℕ) (c : ℕ). xs ++ c ∷ []) (ap (low_bits k) half ∙ ih.1) odd ∙ sym f))
]

-- a value is spelled by its bits
pub value_again : (v : ℤ) → FitsSigned w32 v → value_of_bits (value_bits v) ≡ v
value_again v f = ap (cast_signed w32) (number_is 32 (cast_unsigned w32 v) (omega (arith, ints))) ∙ to_z-of_z w32 v f

-- 32 bits are those of their value
pub value_is : (bs : List ℕ) → length bs ≡ 32 → AreBits bs → value_bits (value_of_bits bs) ≡ bs
value_is bs e h =
    let r = bits_again 32 bs e h in
    ap (low_bits 32) (of_z-to_z w32 (number_of_bits bs) r.0) ∙ r.1

pub value_fits : (bs : List ℕ) → length bs ≡ 32 → AreBits bs → FitsSigned w32 (value_of_bits bs)
value_fits bs e h = let low : number_of_bits bs < 2 ^ 32 = (bits_again 32 bs e h).0 in omega (arith, ints)
