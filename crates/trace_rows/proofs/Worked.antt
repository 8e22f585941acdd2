-- Worked traces, computed by the definitions.
use Rattle.std.proofs.Common.{◌≡◌, ℕ, pos, negsuc, List, [], ◌∷◌, ◌++◌, Option, Some, None, codes, replicate, map, refl}
use Rattle.trace_rows.specs.declared.fault.RowFault.{RowFault}
use Rattle.trace_rows.specs.declared.fault.RowFault.TheVariants as fault
use Rattle.trace_rows.specs.Lines.{lines_of, whole_lines}
use Rattle.trace_rows.specs.Numbers.{word_number}
use Rattle.trace_rows.specs.Words.{line_words}
use Rattle.trace_rows.specs.Trace.{Row, Trace, trace_of}

-- the trace of a text for two inputs a and b, and for none
abbrev of_two : List ℕ → Trace
of_two = trace_of (codes "a" ∷ codes "b" ∷ []) 1000000000

abbrev of_none : List ℕ → Trace
of_none = trace_of [] 1000000000

-- the trace of no inputs and at most two rows
abbrev two_rows_of_none : List ℕ → Trace
two_rows_of_none = trace_of [] 2

abbrev trace : List Row → Option RowFault → ℕ → Trace
trace rows cause line = record { rows = rows; end = record { cause = cause; line = line } }

abbrev spaces : ℕ → List ℕ
spaces n = replicate n 32

-- ---- words and numbers

words_between_blanks : line_words (codes " 3\t5 \r") ≡ codes "3" ∷ codes "5" ∷ []
unfolding line_words
words_between_blanks = refl

lines_end_at_byte_10 : lines_of (codes "a\n\nb") ≡ codes "a" ∷ [] ∷ codes "b" ∷ []
unfolding lines_of
lines_end_at_byte_10 = refl

no_last_line_where_none_begins : lines_of (codes "a\n") ≡ codes "a" ∷ []
unfolding lines_of
no_last_line_where_none_begins = refl

lines_that_came_whole : whole_lines (codes "a\nb") ≡ codes "a" ∷ []
unfolding whole_lines
lines_that_came_whole = refl

numbers : map word_number (map codes ("0" ∷ "-0" ∷ "007" ∷ "-2147483648" ∷ "2147483647" ∷ "-1" ∷ "00000000000000000001" ∷ []))
    ≡ Some (pos 0) ∷ Some (pos 0) ∷ Some (pos 7) ∷ Some (negsuc 2147483647) ∷ Some (pos 2147483647) ∷ Some (negsuc 0) ∷ Some (pos 1) ∷ []
numbers = refl

no_numbers : map word_number (map codes ("" ∷ "-" ∷ "+1" ∷ "--1" ∷ "1-" ∷ "0x1" ∷ "2147483648" ∷ "-2147483649" ∷ "10000000000" ∷ "12345678901234567890" ∷ "-12345678901234567890" ∷ []))
    ≡ None ∷ None ∷ None ∷ None ∷ None ∷ None ∷ None ∷ None ∷ None ∷ None ∷ None ∷ []
no_numbers = refl

no_number_of_other_bytes : map word_number ((0 ∷ []) ∷ (178 ∷ []) ∷ (49 ∷ 0 ∷ []) ∷ (11 ∷ 49 ∷ []) ∷ []) ≡ None ∷ None ∷ None ∷ None ∷ []
no_number_of_other_bytes = refl

-- ---- rows in the header's order

another_order : of_two (codes "b a\n3 5\n3\n") ≡ trace ((pos 5 ∷ pos 3 ∷ []) ∷ []) (Some fault.Bad) 2
unfolding trace_of lines_of line_words
another_order = refl

too_great : of_two (codes "b a\n1 2147483648\n") ≡ trace [] (Some fault.Bad) 1
unfolding trace_of lines_of line_words
too_great = refl

any_blanks_and_no_last_line_feed : of_two (codes "b a\n 3\t5\r\n-1  0") ≡ trace ((pos 5 ∷ pos 3 ∷ []) ∷ (pos 0 ∷ negsuc 0 ∷ []) ∷ []) None 3
unfolding trace_of lines_of line_words
any_blanks_and_no_last_line_feed = refl

a_row_in_part : of_two (codes "b a\n3 5\n3 ") ≡ trace ((pos 5 ∷ pos 3 ∷ []) ∷ []) (Some fault.Bad) 2
unfolding trace_of lines_of line_words
a_row_in_part = refl

one_number_more : of_two (codes "a b\n1 2 3\n") ≡ trace [] (Some fault.Bad) 1
unfolding trace_of lines_of line_words
one_number_more = refl

no_byte_between : of_two (codes "a b\n1,2\n") ≡ trace [] (Some fault.Bad) 1
unfolding trace_of lines_of line_words
no_byte_between = refl

-- ---- headers

header_alone : of_two (codes " b\ta \r\n") ≡ trace [] None 1
unfolding trace_of lines_of line_words
header_alone = refl

bad_headers : map of_two (map codes ("" ∷ "\n" ∷ "a" ∷ "a a\n" ∷ "a b a\n" ∷ "a b c\n" ∷ "a c\n" ∷ "ab\n" ∷ "A b\n" ∷ "# 2\n" ∷ "#2 a\n" ∷ "#2 #2\n" ∷ "#2a b\n" ∷ "2\n" ∷ []))
    ≡ map (λ (n : ℕ). trace [] (Some fault.Bad) 0) (replicate 14 0)
unfolding trace_of lines_of line_words
bad_headers = refl

-- ---- changes alone

the_others_stay : of_two (codes "#2\na=5\nb=2\n\na=1 b=1\na=1 a=2\n")
    ≡ trace ((pos 5 ∷ pos 0 ∷ []) ∷ (pos 5 ∷ pos 2 ∷ []) ∷ (pos 5 ∷ pos 2 ∷ []) ∷ (pos 1 ∷ pos 1 ∷ []) ∷ []) (Some fault.Bad) 5
unfolding trace_of lines_of line_words
the_others_stay = refl

blanks_round_words : of_two (codes " #2\t\r\n b=-7\ta=1 \r\nb=2147483647") ≡ trace ((pos 1 ∷ negsuc 6 ∷ []) ∷ (pos 1 ∷ pos 2147483647 ∷ []) ∷ []) None 3
unfolding trace_of lines_of line_words
blanks_round_words = refl

bad_changes : map of_two (map (λ (row : List ℕ). codes "#2\n" ++ row) (map codes ("a=" ∷ "=5" ∷ "a" ∷ "5" ∷ "a=5 a=6" ∷ "a= 5" ∷ "a =5" ∷ "A=5" ∷ "a==5" ∷ "a=5=6" ∷ "a=+5" ∷ "a=-2147483649" ∷ "a=2147483648" ∷ "c=1" ∷ "a=5 c=1" ∷ [])))
    ≡ map (λ (n : ℕ). trace [] (Some fault.Bad) 1) (replicate 15 0)
unfolding trace_of lines_of line_words
bad_changes = refl

changes_of_no_inputs : of_none (codes "#2\n\n \na=1\n") ≡ trace ([] ∷ [] ∷ []) (Some fault.Bad) 3
unfolding trace_of lines_of line_words
changes_of_no_inputs = refl

long_row_of_changes : of_two (codes "#2\na=1" ++ spaces 8190) ≡ trace [] (Some fault.Long) 1
unfolding trace_of lines_of line_words
long_row_of_changes = refl

longest_row_of_changes : of_two (codes "#2\na=1" ++ spaces 8189) ≡ trace ((pos 1 ∷ pos 0 ∷ []) ∷ []) None 2
unfolding trace_of lines_of line_words
longest_row_of_changes = refl

-- ---- no inputs

nothing : of_none [] ≡ trace [] (Some fault.Bad) 0
unfolding trace_of lines_of line_words
nothing = refl

empty_lines : of_none (codes "\n\n\n") ≡ trace ([] ∷ [] ∷ []) None 3
unfolding trace_of lines_of line_words
empty_lines = refl

blanks_alone : of_none (codes "\n \n") ≡ trace ([] ∷ []) None 2
unfolding trace_of lines_of line_words
blanks_alone = refl

too_many : two_rows_of_none (codes "\n\n\n\n") ≡ trace ([] ∷ [] ∷ []) (Some fault.Many) 3
unfolding trace_of lines_of line_words
too_many = refl

many_before_bad : two_rows_of_none (codes "\n\n\nx") ≡ trace ([] ∷ [] ∷ []) (Some fault.Many) 3
unfolding trace_of lines_of line_words
many_before_bad = refl

-- ---- long lines

long_header : of_none (spaces 8193 ++ codes "\n") ≡ trace [] (Some fault.Long) 0
unfolding trace_of lines_of line_words
long_header = refl

longest_header : of_none (spaces 8192 ++ codes "\n") ≡ trace [] None 1
unfolding trace_of lines_of line_words
longest_header = refl

long_before_bad : of_none (codes "\nx" ++ spaces 8192) ≡ trace [] (Some fault.Long) 1
unfolding trace_of lines_of line_words
long_before_bad = refl
