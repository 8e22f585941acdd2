-- What stands at a place of a text.
use Rattle.std.specs.Prelude.{ℕ, ◌≡◌, ◌≢◌, ◌+◌, ◌≤◌, List, ◌++◌, length, drop, get_or}
use Rattle.std.specs.Char.{digit_value}
use Rattle.std.specs.Str.Parse.{IsNumeral, digits_value}

-- the piece stands there, and ends there
pub record StandsTo (bytes : List ℕ) (at : ℕ) (piece : List ℕ) (end : ℕ) : Type 0 where
  pub within : end ≤ length bytes
  pub place : end ≡ at + length piece
  pub text : drop at bytes ≡ piece ++ drop end bytes

-- a line of two bytes or more ends there
pub record IsFurther (bytes : List ℕ) (at end : ℕ) : Type 0 where
  pub past : at + 2 ≤ end
  pub within : end ≤ length bytes

-- no digit comes next
abbrev pub EndsDigits : List ℕ → Type 0
EndsDigits rest = 10 ≤ digit_value (get_or rest 0 0)

-- no digit and no star comes next
abbrev pub EndsCopy : List ℕ → Type 0
EndsCopy rest = EndsDigits rest × (get_or rest 0 0 ≢ 42)

-- the digits of a number, without a leading zero
pub record IsDecimal (digits : List ℕ) (n : ℕ) : Type 0 where
  pub numeral : IsNumeral 10 digits
  pub front : get_or digits 0 0 ≡ 48 → length digits ≡ 1
  pub value : digits_value 10 digits ≡ n
