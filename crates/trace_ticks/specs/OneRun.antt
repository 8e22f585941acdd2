-- What a run of a kernel has to tell, whatever it is written as.
use Rattle.std.specs.Prelude.{◌≡◌, ◌+◌, ◌-◌, ◌++◌, ◌∷◌, [], ℕ, ℤ, List, None, Some, Option}
use Rattle.forec_kernel.specs.Shapes.{PlainKernel}
use Rattle.forec_kernel.specs.Ticks.{TickState, Fresh, tick, run_from}
use Rattle.forec_kernel.specs.declared.shape.Outcome.{Outcome}
use Rattle.forec_kernel.specs.declared.shape.Outcome.TheVariants as outcome
use Rattle.trace_rows.specs.Report.{end_words, trap_words, over_words, rows_words, row_words}
use Rattle.trace_rows.specs.Trace.{Row, TraceEnd, Trace, trace_of}
use Rattle.trace_rows.specs.declared.fault.RowFault.{RowFault}
use Rattle.trace_ticks.specs.Formats.{opening, tick_written, format_after, last_written}
use Rattle.trace_ticks.specs.KernelNames.{input_names}
use Rattle.trace_ticks.specs.Report.{Report, last_outcome, ending, trace_report}
use Rattle.trace_ticks.specs.declared.format.Format.{Format}

-- the outputs of a tick that went so, where it has any, and those of the ticks after it
abbrev pub told_after : Outcome → List ℤ → List (List ℤ) → List (List ℤ)
told_after outcome.Paused outputs later = outputs ∷ later
told_after outcome.Ended outputs later = outputs ∷ []
told_after (outcome.Trapped place trap) outputs later = []
told_after outcome.Over outputs later = []

-- the outputs of the ticks over these rows that have any
abbrev pub values_from : PlainKernel → ℕ → TickState → List Row → List (List ℤ)
values_from k budget s [] = []
values_from k budget s (row ∷ rows) = let t = tick k budget s row in told_after t.outcome t.outputs (values_from k budget t.state rows)

-- the words of the last line, where tick n went so
abbrev pub words_after : Outcome → ℕ → ℕ → List ℕ → List ℕ
words_after outcome.Paused budget n later = later
words_after outcome.Ended budget n later = end_words n
words_after (outcome.Trapped place trap) budget n later = trap_words n place trap
words_after outcome.Over budget n later = over_words n budget

abbrev pub trace_words : Option RowFault → ℕ → List ℕ
trace_words None n = rows_words (n - 1)
trace_words (Some f) n = row_words n f

-- the words of the last line of a run, of which these rows are left from tick n on
abbrev pub words_from : PlainKernel → ℕ → TickState → ℕ → List Row → TraceEnd → List ℕ
words_from k budget s n [] end = trace_words end.cause end.line
words_from k budget s n (row ∷ rows) end =
    let t = tick k budget s row in words_after t.outcome budget n (words_from k budget t.state (n + 1) rows end)

-- the lines of ticks with these outputs, of which the first is tick n
abbrev pub ticks_written : Format → ℕ → List (List ℤ) → List ℕ
ticks_written how n [] = []
ticks_written how n (values ∷ later) = tick_written how n values ++ ticks_written (format_after how values) (n + 1) later

-- the outputs of each tick of a run over these bytes that has any, and the words of its last line
unfoldable pub run_values : (limit : ℕ) → PlainKernel → ℕ → List ℕ → List (List ℤ)
run_values limit k budget bytes = values_from k budget Fresh (trace_of (input_names k) limit bytes).rows

unfoldable pub run_words : (limit : ℕ) → PlainKernel → ℕ → List ℕ → List ℕ
run_words limit k budget bytes =
    let trace = trace_of (input_names k) limit bytes in words_from k budget Fresh 1 trace.rows trace.end

-- Any format writes of a run these outputs and these words.
abbrev pub FormatsWriteOneRun : Type 0
FormatsWriteOneRun = (limit : ℕ) (how : Format) (k : PlainKernel) (budget : ℕ) (bytes : List ℕ) →
    (trace_report limit how k budget bytes).bytes
    ≡ opening how ++ (ticks_written how 1 (run_values limit k budget bytes) ++ last_written how (run_words limit k budget bytes))

-- No status depends on the format.
abbrev pub FormatsGiveOneStatus : Type 0
FormatsGiveOneStatus = (limit : ℕ) (how other : Format) (k : PlainKernel) (budget : ℕ) (bytes : List ℕ) →
    (trace_report limit how k budget bytes).status ≡ (trace_report limit other k budget bytes).status
