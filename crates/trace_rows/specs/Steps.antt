-- What the steps of a reader say: taking the header, and looking for the next line.
use Rattle.std.specs.Prelude.{◌≡◌, ℕ, ◌<◌, ◌≤◌, Bool, true, false, List, [], ◌++◌, length, Option, Some, Result, Ok, Err}
use Rattle.trace_rows.specs.declared.fault.Next.{Next}
use Rattle.trace_rows.specs.declared.fault.Next.TheVariants as next
use Rattle.trace_rows.specs.declared.fault.RowFault.{RowFault}
use Rattle.trace_rows.specs.declared.fault.RowFault.TheVariants as fault
use Rattle.trace_rows.specs.declared.lines.Lines.{Lines}
use Rattle.trace_rows.specs.Calls.{IfTold}
use Rattle.trace_rows.specs.Held.{held}
use Rattle.trace_rows.specs.Lines.{lines_of}
use Rattle.trace_rows.specs.Reader.{HasLine, Takes, LacksLine, first_line}
use Rattle.trace_rows.specs.SourceReads.{TakesHead, Reading}
use Rattle.trace_rows.specs.Trace.{first_form, most_line_bytes, header_at, rows_of_lines, stop}

-- these lines have no header, whatever the most rows
abbrev pub NoHeader : List (List ℕ) → RowFault → List (List ℕ) → Type 0
NoHeader inputs f lines = (limit : ℕ) → rows_of_lines inputs limit lines ≡ stop (Some f) 0

-- what a call that takes the header says: it was the first line of what was held and is left, or why there is none
abbrev pub TakesHeader : List (List ℕ) → List ℕ → List ℕ → List ℕ → Bool → Bool → Option (List ℕ) → Option (List ℕ) → Result Bool RowFault → Type 0
TakesHeader inputs places held_old held_new was is left_old left_new (Ok changes) =
    (header : List ℕ) × (header_at inputs header ≡ Ok (first_form inputs places changes)) × Takes header held_old held_new is left_old left_new
TakesHeader inputs places held_old held_new was is left_old left_new (Err fault.ReadFault) = LacksLine held_old held_new was is left_old left_new
TakesHeader inputs places held_old held_new was is left_old left_new (Err fault.OutOfMemory) = ⊥
TakesHeader inputs places held_old held_new was is left_old left_new (Err fault.Many) = ⊥
TakesHeader inputs places held_old held_new was is left_old left_new (Err f) = IfTold left_old left_new (λ x y. NoHeader inputs f (lines_of (held_old ++ x)))

-- the header, of the bytes that were held and came
abbrev pub HeaderTook : List (List ℕ) → List ℕ → List ℕ → Bool → Result Bool RowFault → List ℕ → Type 0
HeaderTook inputs places held ended (Ok changes) bytes = TakesHead inputs (first_form inputs places changes) bytes held ended
HeaderTook inputs places held ended (Err f) bytes = Unit {0}

-- what the call says, of a reader of lines
abbrev pub LinesTakeHeader : List (List ℕ) → List ℕ → Lines → Lines → Option (List ℕ) → Option (List ℕ) → Result Bool RowFault → Type 0
LinesTakeHeader inputs places old new left_old left_new r =
    TakesHeader inputs places (held old) (held new) old.ended new.ended left_old left_new r

-- what it reads, of a reader of lines
abbrev pub LinesReadHeader : {S : Type 0} → (S → Option (List ℕ)) → (S → ℕ) → (S → Bool) → List (List ℕ) → List ℕ → Lines → Lines → S → S → Result Bool RowFault → Type 0
LinesReadHeader left faults down inputs places old new source_old source_new r =
    Reading left faults down (held old) old.ended source_old source_new (HeaderTook inputs places (held new) new.ended r)

-- what a call says that looks for the line after so many rows, of at most `limit`: it is there, or nothing more is, or what is in its place
abbrev pub FindsNext : ℕ → ℕ → List ℕ → Bool → Result Next RowFault → Type 0
FindsNext limit given held ended (Ok next.Row) =
    (given < limit) × (length (first_line held) ≤ most_line_bytes) × (0 < length held) × (ended ≡ false → HasLine held)
FindsNext limit given held ended (Ok next.End) = (held ≡ []) × (ended ≡ true)
FindsNext limit given held ended (Err fault.Many) = (limit ≤ given) × (0 < length held)
FindsNext limit given held ended (Err fault.Long) = (given < limit) × (most_line_bytes < length (first_line held))
FindsNext limit given held ended (Err fault.ReadFault) = (HasLine held → ⊥) × (ended ≡ false)
FindsNext limit given held ended (Err fault.Bad) = ⊥
FindsNext limit given held ended (Err fault.OutOfMemory) = ⊥
