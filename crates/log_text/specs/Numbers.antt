-- Numbers that stand at a place.
use Rattle.std.specs.Prelude.{ℕ, ◌<◌, ◌≤◌, ◌-◌, ◌^◌, List, Option, length, take, drop, SomeIff}
use Rattle.std.specs.Str.Parse.{AllDigits, digits_value}
use Rattle.log_text.specs.declared.numbers.Digits.{Digits}
use Rattle.log_text.specs.Pieces.{StandsTo, EndsDigits, IsDecimal}

-- the bytes of a number stand there, and no digit comes next
pub record IsNumberAt (bytes : List ℕ) (at : ℕ) (piece : List ℕ) (end : ℕ) : Type 0 where
  pub stands : StandsTo bytes at piece end
  pub ends : EndsDigits (drop end bytes)

pub record HasDigits (bytes : List ℕ) (at : ℕ) (d : Digits) : Type 0 where
  pub digits : List ℕ
  pub number : ℕ
  pub decimal : IsDecimal digits number
  pub is : IsNumberAt bytes at digits d.end
  pub value : SomeIff d.value (number < 2 ^ 64) number

-- the digits from a place on, up to another, and their number
pub record DigitsTo (bytes : List ℕ) (at end : ℕ) (value : Option ℕ) : Type 0 where
  pub low : at ≤ end
  pub within : end ≤ length bytes
  pub digits : AllDigits 10 (take (end - at) (drop at bytes))
  pub spells : SomeIff value (digits_value 10 (take (end - at) (drop at bytes)) < 2 ^ 64) (digits_value 10 (take (end - at) (drop at bytes)))
