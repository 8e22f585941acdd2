-- The trace of a text, which has one of two forms. In form 1 its first line is the header: the names of all inputs, each
-- once, in any order. Each further line is a row: a number for each name, in the header's order. In form 2 the only word
-- of the first line is `#2`, and a row has the changes alone: names of inputs with their new numbers. The other inputs
-- keep those of the row before, and in the first row 0. A line has at most 8,192 bytes.
use Rattle.std.specs.Prelude.{ℕ, ◌+◌, Bool, ◌&&◌, ◌==◌, List, [], ◌∷◌, length, map, replicate, codes, true, false, ℤ, pos, Option, Some, None, Result, Ok, Err, nat_lt, count_by, slice_index_or, if◌then◌else◌}
use Rattle.std.specs.List.{list_all, position_or_len}
use Rattle.std.specs.Option.{option_map, option_and_then}
use Rattle.std.specs.Str.{bytes_eq}
use Rattle.forec_base.specs.declared.limits.TheConstants.{MAX_LINE_BYTES}
use Rattle.trace_rows.specs.declared.fault.RowFault.{RowFault}
use Rattle.trace_rows.specs.declared.fault.RowFault.TheVariants as fault
use Rattle.trace_rows.specs.Changes.{row_behind}
use Rattle.trace_rows.specs.Lines.{lines_of}
use Rattle.trace_rows.specs.Numbers.{word_number}
use Rattle.trace_rows.specs.Words.{line_words}

-- the values of the inputs in a tick, in order of declaration
abbrev pub Row : Type 0
Row = List ℤ

-- where a trace stops, and why: at its end, or at a line that is no header or row
pub record TraceEnd : Type 0 where
  pub cause : Option RowFault
  pub line : ℕ

pub record Trace : Type 0 where
  pub rows : List Row
  pub end : TraceEnd

abbrev pub most_line_bytes : ℕ
most_line_bytes = MAX_LINE_BYTES

-- ---- the header

-- each of the names stands once among the words, and nothing else does
abbrev pub names_each : List (List ℕ) → List (List ℕ) → Bool
names_each names words = length words == length names && list_all (λ name. count_by (bytes_eq name) words == 1) names

-- where each name stands among the words
abbrev pub places_of : List (List ℕ) → List (List ℕ) → List ℕ
places_of names words = map (λ name. position_or_len (bytes_eq name) words) names

-- how the next row is read: its numbers in order, each input's at this place; or changes of the last row, for these names
pub data Form : Type 0 where
  InOrder : (places : List ℕ) → Form
  Changes : (names : List (List ℕ)) (last : Row) → Form

-- the one word `#2`
abbrev pub is_mark : List (List ℕ) → Bool
is_mark [] = false
is_mark (word ∷ []) = bytes_eq (codes "#2") word
is_mark (word ∷ next ∷ words) = false

-- the form of a trace, as its header has it or not
abbrev pub first_form : List (List ℕ) → List ℕ → Bool → Form
first_form inputs places false = InOrder places
first_form inputs places true = Changes inputs (replicate (length inputs) (pos 0))

-- the form that the words of a header tell, where they are one
abbrev pub form_of : List (List ℕ) → List (List ℕ) → Option Form
form_of inputs words =
    if is_mark words then Some (first_form inputs [] true)
    else (if names_each inputs words then Some (first_form inputs (places_of inputs words) false) else None)

abbrev pub or_bad : {A : Type 0} → Option A → Result A RowFault
or_bad (Some x) = Ok x
or_bad None = Err fault.Bad

-- what stands in the header: how the rows are read
abbrev pub header_at : List (List ℕ) → List ℕ → Result Form RowFault
header_at inputs line = if nat_lt most_line_bytes (length line) then Err fault.Long else or_bad (form_of inputs (line_words line))

-- ---- rows

-- the numbers that words are, where each is one
abbrev pub word_numbers : List (List ℕ) → Option (List ℤ)
word_numbers [] = Some []
word_numbers (word ∷ words) = option_and_then (λ n. option_map (λ ns. n ∷ ns) (word_numbers words)) (word_number word)

-- the numbers at these places
abbrev pub arranged : List ℕ → List ℤ → Row
arranged places numbers = map (λ place. slice_index_or numbers place (pos 0)) places

-- the same, where they are so many
abbrev pub numbers_in : ℕ → List (List ℕ) → Option (List ℤ)
numbers_in count words = if length words == count then word_numbers words else None

-- the row that words are: as many numbers as there are inputs, or changes of the last row
abbrev pub row_of : Form → List (List ℕ) → Option Row
row_of (InOrder places) words = option_map (arranged places) (numbers_in (length places) words)
row_of (Changes names last) words = row_behind names last words

-- how many numbers a row has
abbrev pub row_width : Form → ℕ
row_width (InOrder places) = length places
row_width (Changes names last) = length last

-- what stands in line n: beyond the limit there may be no line, it may be too long, and it may be no row
abbrev pub row_at : ℕ → Form → ℕ → List ℕ → Result Row RowFault
row_at limit form n line =
    if nat_lt limit n then Err fault.Many
    else (if nat_lt most_line_bytes (length line) then Err fault.Long else or_bad (row_of form (line_words line)))

-- how the row after this one is read
abbrev pub next_form : Form → Row → Form
next_form (InOrder places) row = InOrder places
next_form (Changes names last) row = Changes names row

abbrev pub form_after : Form → Result Row RowFault → Form
form_after form (Ok row) = next_form form row
form_after form (Err f) = form

-- ---- the trace

abbrev pub stop : Option RowFault → ℕ → Trace
stop cause n = record { rows = []; end = record { cause = cause; line = n } }

abbrev pub onto : Result Row RowFault → ℕ → Trace → Trace
onto (Ok row) n rest = record { rows = row ∷ rest.rows; end = rest.end }
onto (Err f) n rest = stop (Some f) n

-- the rows of these lines, of which the first is line n, up to the first that is no row
abbrev pub rows_from : ℕ → Form → ℕ → List (List ℕ) → Trace
rows_from limit form n [] = stop None n
rows_from limit form n (line ∷ lines) = onto (row_at limit form n line) n (rows_from limit (form_after form (row_at limit form n line)) (n + 1) lines)

abbrev pub behind : Result Form RowFault → (Form → Trace) → Trace
behind (Ok form) rest = rest form
behind (Err f) rest = stop (Some f) 0

-- the rows after the header, which is line 0
abbrev pub rows_of_lines : List (List ℕ) → ℕ → List (List ℕ) → Trace
rows_of_lines inputs limit [] = stop (Some fault.Bad) 0
rows_of_lines inputs limit (header ∷ lines) = behind (header_at inputs header) (λ form. rows_from limit form 1 lines)

-- the trace of a text, for inputs of these names and at most so many rows
unfoldable pub trace_of : List (List ℕ) → ℕ → List ℕ → Trace
trace_of inputs limit bytes = rows_of_lines inputs limit (lines_of bytes)
