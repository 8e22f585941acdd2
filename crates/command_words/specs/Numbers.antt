-- Numbers in words.
use Rattle.std.specs.Prelude.{ℕ, Bool, nat_lt, nat_le, ◌&&◌, cond, Option, None, Some, List, length}
use Rattle.std.specs.List.{list_all}
use Rattle.std.specs.Char.{is_ascii_digit}
use Rattle.std.specs.Str.Parse.{digits_value}

-- 1 to 19 decimal digits
abbrev pub is_decimal : List ℕ → Bool
is_decimal word = nat_lt 0 (length word) && (nat_lt (length word) 20 && list_all is_ascii_digit word)

-- the number that they write
abbrev pub written_number : List ℕ → Option ℕ
written_number word = cond (is_decimal word) (Some (digits_value 10 word)) None

abbrev pub between : ℕ → ℕ → Option ℕ → Option ℕ
between least most None = None
between least most (Some n) = cond (nat_le least n && nat_le n most) (Some n) None

-- the number of a word, where it is one from the least to the most
abbrev pub number_in : ℕ → ℕ → List ℕ → Option ℕ
number_in least most word = between least most (written_number word)

-- the number of a word, where it is one from the least to the most, or the usual one where there is no word
abbrev pub number_or : ℕ → ℕ → ℕ → Option (List ℕ) → Option ℕ
number_or usual least most None = Some usual
number_or usual least most (Some word) = number_in least most word
