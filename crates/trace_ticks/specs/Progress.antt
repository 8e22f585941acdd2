-- How far a trace was taken.
use Rattle.std.specs.Prelude.{◌≡◌, ◌++◌, ℕ, false, List, Option, Some}
use Rattle.std.specs.Io.KnownBytes.{Appends}
use Rattle.forec_kernel.specs.Composed.{TickInput}
use Rattle.forec_kernel.specs.Shapes.{PlainKernel}
use Rattle.forec_kernel.specs.Ticks.{Fresh}
use Rattle.trace_rows.specs.Lines.{whole_lines}
use Rattle.trace_rows.specs.Reader.{Reader, trace_ahead}
use Rattle.trace_ticks.specs.Formats.{opening}
use Rattle.trace_ticks.specs.Report.{Report, Pace, behind_bytes, report_from, turns_from, advance}
use Rattle.trace_ticks.specs.WaitingRoom.{GainsBytes}
use Rattle.trace_ticks.specs.declared.format.Format.{Format}
use Rattle.trace_ticks.specs.declared.status.Status.{Status}
use Rattle.trace_ticks.specs.declared.waiting.Waiting.{Waiting}

-- the report of a kernel on the rows from where a reader stands
unfoldable pub report_rest : Format → PlainKernel → ℕ → Reader → List ℕ → Report
report_rest how k budget r left = behind_bytes (opening how) (report_from how k budget Fresh 1 (trace_ahead r left))

-- the ticks of a kernel over these rows
unfoldable pub turns_rest : PlainKernel → ℕ → Reader → List ℕ → List TickInput
turns_rest k budget r left = turns_from k budget Fresh (trace_ahead r left).rows

-- it is whole once the lines that wait are with the sink, and just the ticks over these rows were run
pub record IsWholeReport (how : Format) (k : PlainKernel) (budget : ℕ) (first : Reader) (Follows : List TickInput → Type 0) (held_old held_new : Option (List ℕ))
    (waiting : List ℕ) (end : Status) (left : List ℕ) : Type 0 where
  pub status : end ≡ (report_rest how k budget first left).status
  pub sent : List ℕ
  pub appended : Appends held_old held_new sent
  pub bytes : (report_rest how k budget first left).bytes ≡ sent ++ waiting
  pub ran : Follows (turns_rest k budget first left)

-- what was sent and the lines that wait are a front of it
pub record IsReportFront (how : Format) (k : PlainKernel) (budget : ℕ) (first : Reader) (held_old held_new : Option (List ℕ)) (waiting left : List ℕ) : Type 0 where
  pub sent : List ℕ
  pub appended : Appends held_old held_new sent
  pub rest : List ℕ
  pub bytes : (report_rest how k budget first left).bytes ≡ (sent ++ waiting) ++ rest

-- a report was put behind the lines that wait, and this is its status
pub record IsPut (old new : Waiting) (r : Report) (end : Status) : Type 0 where
  pub status : end ≡ r.status
  pub bytes : GainsBytes old new r.bytes

-- these bytes are what the lines print that have come whole, none of which stops the program
abbrev pub Led : Format → PlainKernel → ℕ → Reader → List ℕ → List ℕ → List ℕ → Type 0
Led how k budget first bytes left_old left_new =
    (first.ended ≡ false) × (given : List ℕ) × (first.held ++ left_old ≡ given ++ left_new)
    × (p : Pace) × (advance first.limit how k budget first.form Fresh 1 (whole_lines given) ≡ Some p)
    × (opening how ++ p.bytes ≡ bytes)

-- the source has not told its end, and the lines that have come whole after a header are rows at which the program goes on
abbrev pub GoesOnFrom : Format → PlainKernel → ℕ → Reader → List ℕ → Type 0
GoesOnFrom how k budget first came =
    (first.ended ≡ false) × (p : Pace) × (advance first.limit how k budget first.form Fresh 1 (whole_lines (first.held ++ came)) ≡ Some p)
