-- What a reader of lines holds.
use Rattle.std.specs.Prelude.{◌≡◌, ℕ, ◌<◌, ◌≤◌, Bool, true, false, List, [], length, Result, Ok, Err, slice_range}
use Rattle.forec_base.specs.declared.outside.Failed.{Failed}
use Rattle.trace_rows.specs.Reader.{HasLine, first_line}
use Rattle.trace_rows.specs.Trace.{most_line_bytes}
use Rattle.trace_rows.specs.declared.fault.Next.{Next}
use Rattle.trace_rows.specs.declared.fault.Next.TheVariants as next
use Rattle.trace_rows.specs.declared.fault.RowFault.{RowFault}
use Rattle.trace_rows.specs.declared.fault.RowFault.TheVariants as fault
use Rattle.trace_rows.specs.declared.lines.Lines.{Lines}

-- the bytes that were read and aren't taken yet
abbrev pub held : Lines → List ℕ
held l = slice_range l.bytes.items l.at l.end

-- what a call says that looks for the first line: it came, or what came of it is too long, or there is none, or the source failed
abbrev pub FindsFirstLine : List ℕ → Bool → Result Next RowFault → Type 0
FindsFirstLine bytes ended (Ok next.Row) = (length (first_line bytes) ≤ most_line_bytes) × (0 < length bytes) × (ended ≡ false → HasLine bytes)
FindsFirstLine bytes ended (Ok next.End) = (bytes ≡ []) × (ended ≡ true)
FindsFirstLine bytes ended (Err fault.Long) = most_line_bytes < length (first_line bytes)
FindsFirstLine bytes ended (Err fault.ReadFault) = (HasLine bytes → ⊥) × (ended ≡ false)
FindsFirstLine bytes ended (Err fault.Bad) = ⊥
FindsFirstLine bytes ended (Err fault.Many) = ⊥
FindsFirstLine bytes ended (Err fault.OutOfMemory) = ⊥

-- what a call says that asks whether a further line begins
abbrev pub BeginsLine : List ℕ → Bool → Result Bool Failed → Type 0
BeginsLine bytes ended (Ok true) = 0 < length bytes
BeginsLine bytes ended (Ok false) = (bytes ≡ []) × (ended ≡ true)
BeginsLine bytes ended (Err f) = (HasLine bytes → ⊥) × (ended ≡ false)
