-- Formats write one run.
use Rattle.std.proofs.Common.{◌≡◌, ℕ, ◌+◌, ◌-◌, ℤ, Bool, true, false, List, [], ◌∷◌, ◌++◌, Option, Some, None, Ok, refl, sym, ap, ◌∙◌, append_assoc, append-nil}
use Rattle.forec_kernel.specs.declared.shape.Outcome.{Outcome}
use Rattle.forec_kernel.specs.declared.shape.Outcome.TheVariants as outcome
use Rattle.forec_kernel.specs.Shapes.{PlainKernel}
use Rattle.forec_kernel.specs.Ticks.{TickState, Fresh, Tick, tick, goes_on, run_from}
use Rattle.trace_rows.specs.Trace.{Row, TraceEnd, Trace, onto, trace_of}
use Rattle.trace_rows.specs.declared.fault.RowFault.{RowFault}
use Rattle.trace_ticks.specs.Formats.{opening, tick_written, format_after, last_written}
use Rattle.trace_ticks.specs.KernelNames.{input_names}
use Rattle.trace_ticks.specs.OneRun.{told_after, values_from, words_after, trace_words, words_from, ticks_written, run_values, run_words, FormatsWriteOneRun, FormatsGiveOneStatus}
use Rattle.trace_ticks.specs.Report.{Report, tick_lines, outcome_lines, last_outcome, end_of_trace, ending, behind_bytes, report_from, status_after, trace_report}
use Rattle.trace_ticks.specs.declared.format.Format.{Format}
use Rattle.trace_ticks.proofs.Advancing.{last_alike, report_step}
use Rattle.trace_ticks.proofs.Running.{report_stops}

-- what a format writes of outputs and words
abbrev written : Format → ℕ → List (List ℤ) → List ℕ → List ℕ
written how n values words = ticks_written how n values ++ last_written how words

trace_end : (how : Format) (cause : Option RowFault) (n : ℕ) → (end_of_trace how cause n).bytes ≡ last_written how (trace_words cause n)
trace_end how None n = refl
trace_end how (Some f) n = refl

-- the lines of a tick that stops the program
stopped : (how : Format) (o : Outcome) (budget n : ℕ) (outputs : List ℤ) (values : List (List ℤ)) (words : List ℕ) → goes_on o ≡ false →
    outcome_lines how budget n o outputs ≡ written how n (told_after o outputs values) (words_after o budget n words)
stopped how outcome.Paused budget n outputs values words h = absurd cc
stopped how outcome.Ended budget n outputs values words h = ap (λ ws. ws ++ last_written how (words_after outcome.Ended budget n words)) (sym (append-nil (tick_written how n outputs)))
stopped how (outcome.Trapped place trap) budget n outputs values words h = refl
stopped how outcome.Over budget n outputs values words h = refl

-- those of one at which it goes on, and what comes then
stepped : (how : Format) (o : Outcome) (budget n : ℕ) (outputs : List ℤ) (values : List (List ℤ)) (words : List ℕ) → goes_on o ≡ true →
    outcome_lines how budget n o outputs ++ written (format_after how outputs) (n + 1) values words ≡ written how n (told_after o outputs values) (words_after o budget n words)
stepped how outcome.Paused budget n outputs values words h =
    let later = ticks_written (format_after how outputs) (n + 1) values in
    ap (λ ws. tick_written how n outputs ++ (later ++ ws)) (sym (last_alike how outputs words)) ∙ sym (append_assoc (tick_written how n outputs) later (last_written how words))
stepped how outcome.Ended budget n outputs values words h = absurd cc
stepped how (outcome.Trapped place trap) budget n outputs values words h = absurd cc
stepped how outcome.Over budget n outputs values words h = absurd cc

module _ (how : Format) (k : PlainKernel) (budget : ℕ) (s : TickState) (n : ℕ) (row : Row) (rest : Trace) (values : List (List ℤ)) (words : List ℕ) where
  abbrev t : Tick
  t = tick k budget s row

  -- a row, where what comes after it is written so
  row_written : ((report_from (format_after how t.outputs) k budget t.state (n + 1) rest).bytes ≡ written (format_after how t.outputs) (n + 1) values words) → (b : Bool) → goes_on t.outcome ≡ b →
      (report_from how k budget s n (onto (Ok row) 0 rest)).bytes ≡ written how n (told_after t.outcome t.outputs values) (words_after t.outcome budget n words)
  row_written later true e =
      ap (λ (r : Report). r.bytes) (report_step how k budget s n 0 row rest e) ∙ ap (λ ws. tick_lines how budget n t ++ ws) later ∙ stepped how t.outcome budget n t.outputs values words e
  row_written later false e = ap (λ (r : Report). r.bytes) (report_stops how k budget s n 0 row rest e) ∙ stopped how t.outcome budget n t.outputs values words e

from_written : (how : Format) (k : PlainKernel) (budget : ℕ) (s : TickState) (n : ℕ) (rows : List Row) (end : TraceEnd) →
    (report_from how k budget s n (record { rows = rows; end = end })).bytes ≡ written how n (values_from k budget s rows) (words_from k budget s n rows end)
from_written how k budget s n [] end = trace_end how end.cause end.line
from_written how k budget s n (row ∷ rows) end =
    let t = tick k budget s row in
    row_written how k budget s n row (record { rows = rows; end = end }) (values_from k budget t.state rows) (words_from k budget t.state (n + 1) rows end)
    (from_written (format_after how t.outputs) k budget t.state (n + 1) rows end) (goes_on t.outcome) refl

pub formats_write_one_run : FormatsWriteOneRun
unfolding trace_report run_values run_words
formats_write_one_run limit how k budget bytes =
    let trace = trace_of (input_names k) limit bytes in ap (λ ws. opening how ++ ws) (from_written how k budget Fresh 1 trace.rows trace.end)

-- ---- statuses

end_alike : (how other : Format) (cause : Option RowFault) (n : ℕ) → (end_of_trace how cause n).status ≡ (end_of_trace other cause n).status
end_alike how other None n = refl
end_alike how other (Some f) n = refl

ending_alike : (how other : Format) (o : Outcome) (end : TraceEnd) → (ending how o end).status ≡ (ending other o end).status
ending_alike how other outcome.Paused end = end_alike how other end.cause end.line
ending_alike how other outcome.Ended end = refl
ending_alike how other (outcome.Trapped place trap) end = refl
ending_alike how other outcome.Over end = refl

pub formats_give_one_status : FormatsGiveOneStatus
unfolding trace_report
formats_give_one_status limit how other k budget bytes =
    let trace = trace_of (input_names k) limit bytes in ending_alike how other (last_outcome (run_from k budget Fresh trace.rows)) trace.end
