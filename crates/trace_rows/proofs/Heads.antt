-- What stands in the first line of a trace, and in a row.
use Rattle.std.proofs.Common.{◌≡◌, ℕ, ◌+◌, ◌<◌, ◌≤◌, Bool, false, Option, List, [], ◌∷◌, ◌++◌, Some, None, Ok, Err, length, take, drop, refl, sym, ap, ◌∙◌}
use Rattle.std.proofs.lemmas.Bool.{lt-ltb, le-ltb}
use Rattle.std.proofs.lemmas.List.{take_at}
use Rattle.trace_rows.specs.declared.fault.RowFault.{RowFault}
use Rattle.trace_rows.specs.declared.fault.RowFault.TheVariants as fault
use Rattle.trace_rows.specs.Held.{FindsFirstLine}
use Rattle.trace_rows.specs.Lines.{lines_of}
use Rattle.trace_rows.specs.Reader.{Came}
use Rattle.trace_rows.specs.Steps.{TakesHeader, NoHeader}
use Rattle.trace_rows.specs.Words.{line_words}
use Rattle.trace_rows.specs.Trace.{Row, Form, most_line_bytes, form_of, form_after, next_form, header_at, rows_of_lines, stop, behind, rows_from, row_of, row_at, onto}
use Rattle.trace_rows.proofs.Told.{told_map, long_told, LongLine}

-- ---- headers

pub header_long : (inputs : List (List ℕ)) (line : List ℕ) → most_line_bytes < length line → header_at inputs line ≡ Err fault.Long
header_long inputs line long = rw (lt-ltb most_line_bytes (length line) long) refl

pub header_bad : (inputs : List (List ℕ)) (line : List ℕ) → length line ≤ most_line_bytes → form_of inputs (line_words line) ≡ None → header_at inputs line ≡ Err fault.Bad
header_bad inputs line short bad = rw (le-ltb most_line_bytes (length line) short, bad) refl

pub header_good : (inputs : List (List ℕ)) (line : List ℕ) (form : Form) → length line ≤ most_line_bytes → form_of inputs (line_words line) ≡ Some form → header_at inputs line ≡ Ok form
header_good inputs line form short good = rw (le-ltb most_line_bytes (length line) short, good) refl

-- lines that begin with no header
pub no_header : (inputs : List (List ℕ)) (line : List ℕ) (f : RowFault) (all lines : List (List ℕ)) → all ≡ line ∷ lines → header_at inputs line ≡ Err f →
    (limit : ℕ) → rows_of_lines inputs limit all ≡ stop (Some f) 0
no_header inputs line f all lines e bad limit = ap (rows_of_lines inputs limit) e ∙ ap (λ r. behind r (λ form. rows_from limit form 1 lines)) bad

pub some_header : (inputs : List (List ℕ)) (line : List ℕ) (form : Form) (all lines : List (List ℕ)) → all ≡ line ∷ lines → header_at inputs line ≡ Ok form →
    (limit : ℕ) → rows_of_lines inputs limit all ≡ rows_from limit form 1 lines
some_header inputs line form all lines e good limit = ap (rows_of_lines inputs limit) e ∙ ap (λ r. behind r (λ form. rows_from limit form 1 lines)) good

-- why no header was taken, where no first line was found
pub header_fault : (inputs : List (List ℕ)) (places w bytes : List ℕ) (was is : Bool) (a b : Option (List ℕ)) (f : RowFault) → Came w bytes a b → (is ≡ false → was ≡ false) → FindsFirstLine bytes is (Err f) →
    TakesHeader inputs places w bytes was is a b (Err f)
header_fault inputs places w bytes was is a b fault.Bad came stays finds = absurd finds
header_fault inputs places w bytes was is a b fault.Long came stays long =
    told_map a b (LongLine w) (λ x y. NoHeader inputs fault.Long (lines_of (w ++ x)))
    (long_told w bytes a b came long)
    (λ x y l. no_header inputs l.0 fault.Long (lines_of (w ++ x)) l.1 l.2 (header_long inputs l.0 l.3))
header_fault inputs places w bytes was is a b fault.Many came stays finds = absurd finds
header_fault inputs places w bytes was is a b fault.ReadFault came stays finds = record { came = came; none = finds.0; was = stays finds.1; is = finds.1 }
header_fault inputs places w bytes was is a b fault.OutOfMemory came stays finds = absurd finds

-- a buffer that was written whole
pub written : {A : Type 0} (new old : List A) (n : ℕ) → n ≡ length new → take n (new ++ drop (length new) old) ≡ new
written new old n e = take_at new (drop (length new) old) n (sym e)

-- ---- rows

pub row_many : (limit n : ℕ) (form : Form) (line : List ℕ) → limit < n → row_at limit form n line ≡ Err fault.Many
row_many limit n form line h = rw (lt-ltb limit n h) refl

pub row_long : (limit n : ℕ) (form : Form) (line : List ℕ) → n ≤ limit → most_line_bytes < length line → row_at limit form n line ≡ Err fault.Long
row_long limit n form line h long = rw (le-ltb limit n h, lt-ltb most_line_bytes (length line) long) refl

pub row_bad : (limit n : ℕ) (form : Form) (line : List ℕ) → n ≤ limit → length line ≤ most_line_bytes → row_of form (line_words line) ≡ None → row_at limit form n line ≡ Err fault.Bad
row_bad limit n form line h short bad = rw (le-ltb limit n h, le-ltb most_line_bytes (length line) short, bad) refl

pub row_good : (limit n : ℕ) (form : Form) (line : List ℕ) (row : Row) → n ≤ limit → length line ≤ most_line_bytes → row_of form (line_words line) ≡ Some row → row_at limit form n line ≡ Ok row
row_good limit n form line row h short good = rw (le-ltb limit n h, le-ltb most_line_bytes (length line) short, good) refl

-- lines that begin with no row
pub no_row : (limit n : ℕ) (form : Form) (line : List ℕ) (f : RowFault) (all lines : List (List ℕ)) → all ≡ line ∷ lines → row_at limit form n line ≡ Err f →
    rows_from limit form n all ≡ stop (Some f) n
no_row limit n form line f all lines e bad = ap (rows_from limit form n) e ∙ ap (λ r. onto r n (rows_from limit (form_after form r) (n + 1) lines)) bad

pub some_row : (limit n : ℕ) (form : Form) (line : List ℕ) (row : Row) (all lines : List (List ℕ)) → all ≡ line ∷ lines → row_at limit form n line ≡ Ok row →
    rows_from limit form n all ≡ onto (Ok row) n (rows_from limit (next_form form row) (n + 1) lines)
some_row limit n form line row all lines e good = ap (rows_from limit form n) e ∙ ap (λ r. onto r n (rows_from limit (form_after form r) (n + 1) lines)) good

pub end_row : (limit n : ℕ) (form : Form) (all : List (List ℕ)) → all ≡ [] → rows_from limit form n all ≡ stop None n
end_row limit n form all e = ap (rows_from limit form n) e
