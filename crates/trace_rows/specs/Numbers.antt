-- The numbers of a trace: an optional `-` and one or more decimal digits, from -2147483648 to 2147483647.
use Rattle.std.specs.Prelude.{ℕ, ◌+◌, ◌-◌, ◌*◌, List, [], ◌∷◌, ℤ, pos, neg_ℤ, Option, Some, None, nat_le, if◌then◌else◌, ◌==◌}
use Rattle.std.specs.Char.{is_ascii_digit}
use Rattle.std.specs.List.{fold, list_all}

abbrev pub add_digit : ℕ → ℕ → ℕ
add_digit n b = n * 10 + (b - 48)

-- the number that digits spell
abbrev pub digits_value : List ℕ → ℕ
digits_value digits = fold add_digit 0 digits

-- the number that a text spells, where it is one or more digits
abbrev pub magnitude_of : List ℕ → Option ℕ
magnitude_of [] = None
magnitude_of (b ∷ bs) = if list_all is_ascii_digit (b ∷ bs) then Some (digits_value (b ∷ bs)) else None

abbrev pub positive : Option ℕ → Option ℤ
positive None = None
positive (Some n) = if nat_le n 2147483647 then Some (pos n) else None

abbrev pub negative : Option ℕ → Option ℤ
negative None = None
negative (Some n) = if nat_le n 2147483648 then Some (neg_ℤ (pos n)) else None

-- the number that a word is, where it is one
abbrev pub word_number : List ℕ → Option ℤ
word_number [] = None
word_number (b ∷ bs) = if b == 45 then negative (magnitude_of bs) else positive (magnitude_of (b ∷ bs))
