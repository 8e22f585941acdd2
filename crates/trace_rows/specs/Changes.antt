-- Rows that give changes alone. A word of such a row is the name of an input, `=` and a number, without a blank between them.
use Rattle.std.specs.Prelude.{ℕ, Bool, true, false, ◌==◌, List, [], ◌∷◌, length, replicate, ℤ, Option, Some, None, slice_index_or, slice_set, if◌then◌else◌}
use Rattle.std.specs.List.{before_first, after_first, position}
use Rattle.std.specs.Option.{option_map, option_and_then}
use Rattle.std.specs.Str.{bytes_eq}
use Rattle.trace_rows.specs.Numbers.{word_number}

abbrev pub is_equals : ℕ → Bool
is_equals b = b == 61

-- the input that a word names, by its place among these names, and its number
abbrev pub change_in : List (List ℕ) → List ℕ → Option (ℕ × ℤ)
change_in names word =
    option_and_then (λ i. option_map (λ n. (i, n)) (word_number (after_first is_equals word))) (position (bytes_eq (before_first is_equals word)) names)

-- a row behind these words, each of which changes an input that no word before it names; `named` has those that were named
abbrev pub changed_row : List (List ℕ) → List Bool → List ℤ → List (List ℕ) → Option (List ℤ)
changed_row names named row [] = Some row
changed_row names named row (word ∷ words) =
    option_and_then (λ c. if slice_index_or named c.0 false then None else changed_row names (slice_set named c.0 true) (slice_set row c.0 c.1) words) (change_in names word)

-- a row behind the words of the next line
abbrev pub row_behind : List (List ℕ) → List ℤ → List (List ℕ) → Option (List ℤ)
row_behind names row words = changed_row names (replicate (length names) false) row words
