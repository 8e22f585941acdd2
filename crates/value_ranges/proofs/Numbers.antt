-- Each operator's result fits 32 bits.
use Rattle.std.proofs.Common.{ℕ, zero, suc, ◌-◌, ◌*◌, ◌/◌, ◌%◌, ◌^◌, ◌<◌, ◌≤◌, ℤ, pos, negsuc, Bool, true, false, cond, Option, Some, None, FitsSigned, w32, arith}
use Rattle.std.proofs.lemmas.Int.{SFits-int_wrap}
use Rattle.std.proofs.lemmas.Nat.{xor_lt}
use Rattle.std.proofs.Math.Nat.{div-le_self}
use Rattle.std.proofs.Math.Facts.{sfits_to_z}
use Rattle.std.specs.Prelude.{◌+ℤ◌, ◌-ℤ◌, ◌*ℤ◌, neg_ℤ, int_rem, int_div}
use Rattle.std.specs.Int.{cast_signed, cast_unsigned, int_wrapping_div, int_shr}
use Rattle.std.specs.Int.Bits.{bit_and, bit_or, bit_xor, and_lt, or_lt}
use Rattle.std.specs.Int.Signed.{mag, mag_rem, mag_shr}
use Rattle.forec_base.specs.Numbers.{truth, is_zero, shift_count, unary_of, unless_zero, binary_of}
use Rattle.forec_base.specs.declared.operators.Unary.{Unary}
use Rattle.forec_base.specs.declared.operators.Unary.TheVariants.{Minus, Invert, Not}
use Rattle.forec_base.specs.declared.operators.Binary.{Binary}
use Rattle.forec_base.specs.declared.operators.Binary.TheVariants.{Add, Sub, Mul, Div, Rem, Shl, Shr, Lt, Le, Gt, Ge, Eq, Ne, BitAnd, BitXor, BitOr}

pub zero_fits : FitsSigned w32 (pos 0)
zero_fits = record { sfits = omega arith }

pub one_fits : FitsSigned w32 (pos 1)
one_fits = record { sfits = omega arith }

pub truth_fits : (b : Bool) → FitsSigned w32 (truth b)
truth_fits true = one_fits
truth_fits false = zero_fits

-- a number of 32 bits, read with its sign
pub signed_fits : (n : ℕ) → n < 2 ^ 32 → FitsSigned w32 (cast_signed w32 n)
signed_fits n h = sfits_to_z {w = w32} {n = n} (record { fits = h })

bits_below : (a : ℤ) → FitsSigned w32 a → cast_unsigned w32 a < 2 ^ 32
bits_below (pos n) h = let f = h.sfits in omega arith
bits_below (negsuc n) h = omega arith

-- as far from 0 as a, at most
fits_by : (a b : ℤ) → mag b ≤ mag a → FitsSigned w32 a → FitsSigned w32 b
fits_by a b h f = let g = f.sfits in record { sfits = omega arith }

-- ---- operators

pub unary_fits : (op : Unary) (a : ℤ) → FitsSigned w32 a → FitsSigned w32 (unary_of op a)
unary_fits Minus a h = SFits-int_wrap w32 (neg_ℤ a)
unary_fits Invert a h = signed_fits (2 ^ 32 - 1 - cast_unsigned w32 a) (omega arith)
unary_fits Not a h = truth_fits (is_zero a)

-- a number, where there is one
abbrev pub OptionFits : Option ℤ → Type 0
OptionFits (Some n) = FitsSigned w32 n
OptionFits None = Unit {0}

unless_fits : (b n : ℤ) → FitsSigned w32 n → OptionFits (unless_zero b n)
unless_fits b n h = pick (is_zero b)
  where
    pick : (z : Bool) → OptionFits (cond z None (Some n))
    pick true = tt
    pick false = h

-- the bits of n's opposite
opposite_below : (n : ℕ) → cast_unsigned w32 (neg_ℤ (pos n)) < 2 ^ 32
opposite_below zero = omega arith
opposite_below (suc n) = omega arith

quotient_below : (a b : ℤ) → FitsSigned w32 a → cast_unsigned w32 (int_div a b) < 2 ^ 32
quotient_below (pos a) (pos b) h =
    let f = h.sfits in
    let g : a / b ≤ a = div-le_self a b in omega arith
quotient_below (pos a) (negsuc b) h = opposite_below (a / suc b)
quotient_below (negsuc a) (pos b) h = opposite_below (suc a / b)
quotient_below (negsuc a) (negsuc b) h =
    let f = h.sfits in
    let g : suc a / suc b ≤ suc a = div-le_self (suc a) (suc b) in omega arith

pub binary_fits : (op : Binary) (a b : ℤ) → FitsSigned w32 a → FitsSigned w32 b → OptionFits (binary_of op a b)
binary_fits Add a b h g = SFits-int_wrap w32 (a +ℤ b)
binary_fits Sub a b h g = SFits-int_wrap w32 (a -ℤ b)
binary_fits Mul a b h g = SFits-int_wrap w32 (a *ℤ b)
binary_fits Div a b h g =
    unless_fits b (int_wrapping_div w32 a b) (signed_fits (cast_unsigned w32 (int_div a b)) (quotient_below a b h))
binary_fits Rem a b h g = unless_fits b (int_rem a b) (fits_by a (int_rem a b) (mag_rem a b) h)
binary_fits Shl a b h g =
    let k = shift_count b in
    signed_fits ((cast_unsigned w32 a * 2 ^ k) % 2 ^ 32) (omega arith)
binary_fits Shr a b h g = fits_by a (int_shr a (shift_count b)) (mag_shr a (2 ^ shift_count b)) h
binary_fits Lt a b h g = truth_fits _
binary_fits Le a b h g = truth_fits _
binary_fits Gt a b h g = truth_fits _
binary_fits Ge a b h g = truth_fits _
binary_fits Eq a b h g = truth_fits _
binary_fits Ne a b h g = truth_fits _
binary_fits BitAnd a b h g =
    let x = cast_unsigned w32 a in
    let y = cast_unsigned w32 b in
    signed_fits (bit_and x y) (and_lt 32 x y (bits_below a h) (bits_below b g))
binary_fits BitXor a b h g =
    let x = cast_unsigned w32 a in
    let y = cast_unsigned w32 b in
    signed_fits (bit_xor x y) (xor_lt 32 x y (bits_below a h) (bits_below b g))
binary_fits BitOr a b h g =
    let x = cast_unsigned w32 a in
    let y = cast_unsigned w32 b in
    signed_fits (bit_or x y) (or_lt 32 x y (bits_below a h) (bits_below b g))
