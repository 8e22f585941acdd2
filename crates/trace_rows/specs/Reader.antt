-- Where a reader of rows stands, and what its calls say.
use Rattle.std.specs.Prelude.{◌≡◌, ℕ, ◌+◌, ◌<◌, Bool, true, false, List, [], ◌++◌, length, Option, None, Some, Result, Ok, Err}
use Rattle.std.specs.List.{before_first, after_first, position_or_len}
use Rattle.std.specs.Io.KnownBytes.{Consumes}
use Rattle.trace_rows.specs.declared.fault.Next.{Next}
use Rattle.trace_rows.specs.declared.fault.Next.TheVariants as next
use Rattle.trace_rows.specs.declared.fault.RowFault.{RowFault}
use Rattle.trace_rows.specs.declared.fault.RowFault.TheVariants as fault
use Rattle.trace_rows.specs.Lines.{is_newline, lines_of}
use Rattle.trace_rows.specs.Trace.{Row, Form, Trace, header_at, next_form, row_at, row_width, rows_from, stop, onto, trace_of}

pub record Reader : Type 0 where
  -- the bytes that were read and aren't taken yet
  pub held : List ℕ
  -- the source has told its end
  pub ended : Bool
  -- how the next row is read
  pub form : Form
  -- the most rows, and the rows so far
  pub limit : ℕ
  pub given : ℕ
  -- a further row may be asked for
  pub live : Bool

-- ---- bytes

-- a whole line is there
abbrev pub HasLine : List ℕ → Type 0
HasLine bytes = position_or_len is_newline bytes < length bytes

-- the bytes of the first line, as far as they came
abbrev pub first_line : List ℕ → List ℕ
first_line bytes = before_first is_newline bytes

-- bytes came from a source, after those that were held
pub record Came (held_old held_new : List ℕ) (left_old left_new : Option (List ℕ)) : Type 0 where
  pub bytes : List ℕ
  pub held : held_new ≡ held_old ++ bytes
  pub source : Consumes left_old left_new bytes

-- of what was held and came, the first line was taken; the source has told its end where byte 10 isn't after it
pub record Takes (line held_old held_new : List ℕ) (ended : Bool) (left_old left_new : Option (List ℕ)) : Type 0 where
  pub bytes : List ℕ
  pub came : Came held_old bytes left_old left_new
  pub some : 0 < length bytes
  pub line_is : line ≡ first_line bytes
  pub rest : held_new ≡ after_first is_newline bytes
  pub whole : ended ≡ false → HasLine bytes

-- no whole line was held, and none came
pub record LacksLine (held_old held_new : List ℕ) (ended_old ended_new : Bool) (left_old left_new : Option (List ℕ)) : Type 0 where
  pub came : Came held_old held_new left_old left_new
  pub none : HasLine held_new → ⊥
  pub was : ended_old ≡ false
  pub is : ended_new ≡ false

-- ---- the header

-- what the first call says of the bytes
abbrev pub StartTakes : List (List ℕ) → Option (List ℕ) → Option (List ℕ) → Result Reader RowFault → Type 0
StartTakes inputs left_old left_new (Ok r) =
    (header : List ℕ) × (header_at inputs header ≡ Ok r.form) × Takes header [] r.held r.ended left_old left_new
StartTakes inputs left_old left_new (Err fault.ReadFault) = (held : List ℕ) × LacksLine [] held false false left_old left_new
StartTakes inputs left_old left_new (Err f) = Unit {0}

-- the trace from where a reader stands, of the bytes that are left
abbrev pub trace_ahead : Reader → List ℕ → Trace
trace_ahead r left = rows_from r.limit r.form (r.given + 1) (lines_of (r.held ++ left))

-- what the first call says of the trace
abbrev pub StartSays : List (List ℕ) → ℕ → Result Reader RowFault → List ℕ → List ℕ → Type 0
StartSays inputs limit (Ok r) before now = trace_of inputs limit before ≡ trace_ahead r now
StartSays inputs limit (Err fault.Bad) before now = trace_of inputs limit before ≡ stop (Some fault.Bad) 0
StartSays inputs limit (Err fault.Long) before now = trace_of inputs limit before ≡ stop (Some fault.Long) 0
StartSays inputs limit (Err fault.Many) before now = ⊥
StartSays inputs limit (Err fault.ReadFault) before now = Unit {0}
StartSays inputs limit (Err fault.OutOfMemory) before now = before ≡ now

-- ---- rows

-- what a call that asks for the next row says of the bytes
abbrev pub NextTakes : Reader → Reader → Row → Option (List ℕ) → Option (List ℕ) → Result Next RowFault → Type 0
NextTakes old new row left_old left_new (Ok next.Row) =
    (line : List ℕ) × (row_at old.limit old.form (old.given + 1) line ≡ Ok row) × Takes line old.held new.held new.ended left_old left_new
NextTakes old new row left_old left_new (Ok next.End) = Unit {0}
NextTakes old new row left_old left_new (Err fault.ReadFault) = LacksLine old.held new.held old.ended new.ended left_old left_new
NextTakes old new row left_old left_new (Err f) = Unit {0}

-- what a call that asks for the next row says of the trace
abbrev pub NextSays : Reader → Reader → Row → Result Next RowFault → List ℕ → List ℕ → Type 0
NextSays old new row (Ok next.Row) before now = trace_ahead old before ≡ onto (Ok row) (old.given + 1) (trace_ahead new now)
NextSays old new row (Ok next.End) before now = trace_ahead old before ≡ stop None (old.given + 1)
NextSays old new row (Err fault.Bad) before now = trace_ahead old before ≡ stop (Some fault.Bad) (old.given + 1)
NextSays old new row (Err fault.Long) before now = trace_ahead old before ≡ stop (Some fault.Long) (old.given + 1)
NextSays old new row (Err fault.Many) before now = trace_ahead old before ≡ stop (Some fault.Many) (old.given + 1)
NextSays old new row (Err fault.ReadFault) before now = Unit {0}
NextSays old new row (Err fault.OutOfMemory) before now = ⊥

-- what a call that asks for the next row leaves: a row more was given, or nothing is given any more
abbrev pub NextLeaves : Reader → Reader → Row → Row → Result Next RowFault → Type 0
NextLeaves old new row_old row_new (Ok next.Row) =
    (old.given < old.limit) × (new.given ≡ old.given + 1) × (new.live ≡ true) × (new.form ≡ next_form old.form row_new)
    × (row_width new.form ≡ row_width old.form)
NextLeaves old new row_old row_new (Ok next.End) = (row_new ≡ row_old) × (new.live ≡ false)
NextLeaves old new row_old row_new (Err f) = (row_new ≡ row_old) × (new.live ≡ false)
