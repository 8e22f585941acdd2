-- The words of a line: what stands between blanks. A blank is a space, a tab or a byte 13.
use Rattle.std.specs.Prelude.{ℕ, Bool, true, false, ◌≡◌, ◌||◌, ◌==◌, List, [], ◌∷◌, filter}
use Rattle.std.specs.List.{slice_split}

abbrev pub is_blank : ℕ → Bool
is_blank b = b == 32 || (b == 9 || b == 13)

abbrev pub is_some_text : List ℕ → Bool
is_some_text [] = false
is_some_text (b ∷ bs) = true

unfoldable pub line_words : List ℕ → List (List ℕ)
line_words line = filter is_some_text (slice_split is_blank line)

-- it doesn't begin with a blank
abbrev pub BeginsNoBlank : List ℕ → Type 0
BeginsNoBlank [] = Unit {0}
BeginsNoBlank (b ∷ bs) = is_blank b ≡ false
