-- What a kernel prints for a trace, and the status.
use Rattle.std.specs.Prelude.{ℕ, ◌+◌, ◌-◌, ℤ, List, [], ◌∷◌, ◌++◌, Option, Some, None, Result, Ok, Err, if◌then◌else◌}
use Rattle.std.specs.Option.{option_map}
use Rattle.forec_kernel.specs.declared.shape.Outcome.{Outcome}
use Rattle.forec_kernel.specs.declared.shape.Outcome.TheVariants as outcome
use Rattle.forec_kernel.specs.Composed.{TickInput}
use Rattle.forec_kernel.specs.Shapes.{PlainKernel}
use Rattle.forec_kernel.specs.Ticks.{TickState, Fresh, Tick, tick, goes_on, run_from}
use Rattle.trace_rows.specs.Trace.{Row, Form, TraceEnd, Trace, header_at, next_form, row_at, trace_of}
use Rattle.trace_rows.specs.declared.fault.RowFault.{RowFault}
use Rattle.trace_ticks.specs.Formats.{opening, tick_written, format_after, last_written}
use Rattle.trace_ticks.specs.KernelNames.{input_names}
use Rattle.trace_ticks.specs.declared.format.Format.{Format}
use Rattle.trace_rows.specs.Report.{end_words, trap_words, over_words, rows_words, row_words}
use Rattle.trace_ticks.specs.declared.status.Status.{Status}
use Rattle.trace_ticks.specs.declared.status.Status.TheVariants as status

pub record Report : Type 0 where
  pub bytes : List ℕ
  pub status : Status

-- ---- the whole report

-- the lines of tick n, which went so and gave these outputs
abbrev pub outcome_lines : Format → ℕ → ℕ → Outcome → List ℤ → List ℕ
outcome_lines how budget n outcome.Paused outputs = tick_written how n outputs
outcome_lines how budget n outcome.Ended outputs = tick_written how n outputs ++ last_written how (end_words n)
outcome_lines how budget n (outcome.Trapped place trap) outputs = last_written how (trap_words n place trap)
outcome_lines how budget n outcome.Over outputs = last_written how (over_words n budget)

-- the lines of tick n
abbrev pub tick_lines : Format → ℕ → ℕ → Tick → List ℕ
tick_lines how budget n t = outcome_lines how budget n t.outcome t.outputs

-- the lines of these ticks, of which the first is tick n
abbrev pub lines_from : Format → ℕ → ℕ → List Tick → List ℕ
lines_from how budget n [] = []
lines_from how budget n (t ∷ ts) = tick_lines how budget n t ++ lines_from (format_after how t.outputs) budget (n + 1) ts

-- how the last of these ticks went; before the first one the program goes on
abbrev pub last_outcome : List Tick → Outcome
last_outcome [] = outcome.Paused
last_outcome (t ∷ []) = t.outcome
last_outcome (t ∷ u ∷ ts) = last_outcome (u ∷ ts)

-- what comes at line n of a trace, at which the program would go on
abbrev pub end_of_trace : Format → Option RowFault → ℕ → Report
end_of_trace how None n = record { bytes = last_written how (rows_words (n - 1)); status = status.Done }
end_of_trace how (Some f) n = record { bytes = last_written how (row_words n f); status = status.Trace }

-- the status of a run whose last tick went so, where it stops there
abbrev pub status_after : Outcome → Status
status_after outcome.Paused = status.Done
status_after outcome.Ended = status.Done
status_after (outcome.Trapped place trap) = status.Trapped
status_after outcome.Over = status.Over

-- what comes after the lines of the ticks, of which the last went so
abbrev pub ending : Format → Outcome → TraceEnd → Report
ending how outcome.Paused end = end_of_trace how end.cause end.line
ending how outcome.Ended end = record { bytes = []; status = status.Done }
ending how (outcome.Trapped place trap) end = record { bytes = []; status = status.Trapped }
ending how outcome.Over end = record { bytes = []; status = status.Over }

abbrev pub behind_bytes : List ℕ → Report → Report
behind_bytes bytes r = record { bytes = bytes ++ r.bytes; status = r.status }

-- the report of a kernel from tick n on
abbrev pub report_from : Format → PlainKernel → ℕ → TickState → ℕ → Trace → Report
report_from how k budget s n trace =
    let ticks = run_from k budget s trace.rows in behind_bytes (lines_from how budget n ticks) (ending how (last_outcome ticks) trace.end)

-- the report of a kernel for the bytes of a trace, of which at most `limit` rows are run, in the format of the report before tick 1
unfoldable pub trace_report : (limit : ℕ) → Format → PlainKernel → ℕ → List ℕ → Report
trace_report limit how k budget bytes = behind_bytes (opening how) (report_from how k budget Fresh 1 (trace_of (input_names k) limit bytes))

-- ---- the ticks of a run

-- the ticks of a kernel over rows, up to the first at which it doesn't go on: each with its row and its budget
abbrev pub turns_from : PlainKernel → ℕ → TickState → List Row → List TickInput
turns_from k budget s [] = []
turns_from k budget s (row ∷ rows) =
    let t = tick k budget s row in
    record { row = row; budget = budget } ∷ (if goes_on t.outcome then turns_from k budget t.state rows else [])

-- the ticks of a kernel over the rows of a trace
unfoldable pub trace_turns : (limit : ℕ) → PlainKernel → ℕ → List ℕ → List TickInput
trace_turns limit k budget bytes = turns_from k budget Fresh (trace_of (input_names k) limit bytes).rows

-- ---- the report so far

-- how far lines have led: the state, the number of the next tick, how its row is read and how its lines are written, and what was printed
pub record Pace : Type 0 where
  pub state : TickState
  pub next : ℕ
  pub form : Form
  pub format : Format
  pub bytes : List ℕ

abbrev pub pace_with_row : Result Row RowFault → (Row → Option Pace) → Option Pace
pace_with_row (Ok row) f = f row
pace_with_row (Err e) f = None

abbrev pub printed_before : List ℕ → Pace → Pace
printed_before bytes p = record { state = p.state; next = p.next; form = p.form; format = p.format; bytes = bytes ++ p.bytes }

-- What these lines print, of which the first is line n and is read so, where each is a row and the program goes on at each.
abbrev pub advance : (limit : ℕ) → Format → PlainKernel → ℕ → Form → TickState → ℕ → List (List ℕ) → Option Pace
advance limit how k budget form s n [] = Some (record { state = s; next = n; form = form; format = how; bytes = [] })
advance limit how k budget form s n (line ∷ lines) = pace_with_row (row_at limit form n line) (λ row.
    let t = tick k budget s row in
    if goes_on t.outcome then
    option_map (printed_before (tick_lines how budget n t)) (advance limit (format_after how t.outputs) k budget (next_form form row) t.state (n + 1) lines)
    else None)

abbrev pub with_header : Result Form RowFault → (Form → Option (List ℕ)) → Option (List ℕ)
with_header (Ok form) bytes = bytes form
with_header (Err e) bytes = None

-- what a kernel has printed for these first lines of a trace, where none of them stops it
unfoldable pub printed_for : (limit : ℕ) → Format → PlainKernel → ℕ → List (List ℕ) → Option (List ℕ)
printed_for limit how k budget [] = Some []
printed_for limit how k budget (header ∷ lines) =
    with_header (header_at (input_names k) header) (λ form. option_map (λ p. opening how ++ p.bytes) (advance limit how k budget form Fresh 1 lines))
