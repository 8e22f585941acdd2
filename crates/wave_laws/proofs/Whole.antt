-- The dump of a run tells the run.
use Rattle.std.proofs.Common.{◌≡◌, ℕ, ◌≤◌, List, ◌++◌, length, sym, ap, subst, ◌∙◌, arith, append_assoc, codes}
use Rattle.forec_base.specs.declared.limits.TheConstants.{MAX_ROWS, MAX_TEXT_BYTES}
use Rattle.forec_kernel.specs.Shapes.{PlainKernel}
use Rattle.forec_kernel.specs.Ticks.{Fresh}
use Rattle.dump_report.specs.Told.{told_lines, told_report, dump_report}
use Rattle.dump_report.specs.declared.status.DumpStatus.TheVariants as told
use Rattle.trace_rows.specs.Trace.{trace_of}
use Rattle.trace_ticks.specs.KernelNames.{input_names, output_names, run_format}
use Rattle.trace_ticks.specs.OneRun.{run_values, run_words, FormatsWriteOneRun, FormatsGiveOneStatus}
use Rattle.trace_ticks.specs.Report.{trace_report}
use Rattle.trace_ticks.specs.declared.format.Telling.TheVariants as telling
use Rattle.value_ranges.specs.Laws.{TicksFit, at_first}
use Rattle.wave_dump.specs.Wave.{PlainDump, IsDump, head_text, ticks_text, no_values, until_ending, tail_text, wave_text}
use Rattle.wave_dump.specs.Writing.{none_yet}
use Rattle.wave_laws.specs.Laws.{DumpsTellRuns}
use Rattle.wave_laws.specs.Runs.{CanDump, run_dump}
use Rattle.wave_laws.proofs.Bytes.{IsLine, line_from}
use Rattle.wave_laws.proofs.Rows.{trace_good}
use Rattle.wave_laws.proofs.Values.{GoodValues, values_good, none_are, wave_writes, report_writes}

module _ (limit : ℕ) (k : PlainKernel) (budget : ℕ) (bytes : List ℕ) where
  run_line : IsLine (run_words limit k budget bytes)
  unfolding run_words
  run_line = let trace = trace_of (input_names k) limit bytes in line_from k budget Fresh 1 trace.rows trace.end

  run_good : TicksFit → CanDump k → GoodValues (length (output_names k)) limit (run_values limit k budget bytes)
  unfolding run_values
  run_good fit can =
      let trace = trace_of (input_names k) limit bytes in
      let rows = trace_good (input_names k) limit bytes in
      let all = values_good k fit can.words budget Fresh at_first trace.rows rows.words in
      record { each = all.each; few = omega (arith, all.few, rows.few) }

  run_is_dump : TicksFit → limit ≤ MAX_ROWS → CanDump k → IsDump (run_dump limit k budget bytes)
  run_is_dump fit most can =
      let good = run_good fit can in
      record { few = can.few; names = can.names; ticks = good.each; numbers = omega (arith, good.few, most); some = run_line.some; ending = run_line.each }

  wave_is : FormatsWriteOneRun → ((d : PlainDump) → wave_text d ≡ until_ending d.names d.ticks ++ tail_text d.ending) → (trace_report limit (run_format telling.Wave k) k budget bytes).bytes ≡ wave_text (run_dump limit k budget bytes)
  wave_is one parts =
      let names = output_names k in
      let ticks = run_values limit k budget bytes in
      let words = run_words limit k budget bytes in
      let last = tail_text words in
      one limit (run_format telling.Wave k) k budget bytes
      ∙ ap (λ bs. head_text names ++ (bs ++ last)) (wave_writes names (none_yet (length names)) 1 ticks ∙ ap (λ olds. ticks_text 1 olds ticks) (none_are names))
      ∙ sym (append_assoc (head_text names) (ticks_text 1 (no_values names) ticks) last)
      ∙ sym (parts (run_dump limit k budget bytes))

  run_is : FormatsWriteOneRun → (trace_report limit (run_format telling.Report k) k budget bytes).bytes ≡ told_lines (run_dump limit k budget bytes)
  run_is one =
      one limit (run_format telling.Report k) k budget bytes
      ∙ ap (λ bs. bs ++ (run_words limit k budget bytes ++ codes "\n")) (report_writes (output_names k) 1 (run_values limit k budget bytes))

pub dumps_tell_runs : FormatsWriteOneRun → FormatsGiveOneStatus → TicksFit → ((d : PlainDump) → wave_text d ≡ until_ending d.names d.ticks ++ tail_text d.ending) →
    ((d : PlainDump) → IsDump d → length (wave_text d) ≤ MAX_TEXT_BYTES → dump_report (wave_text d) ≡ told_report d) → DumpsTellRuns
dumps_tell_runs one status fit parts again limit k budget bytes most can =
    let d = run_dump limit k budget bytes in
    let is = run_is_dump limit k budget bytes fit most can in
    let text = wave_is limit k budget bytes one parts in
    let lines = run_is limit k budget bytes one in
    record {
      dump = is;
      text = text;
      lines = lines;
      status = status limit (run_format telling.Wave k) (run_format telling.Report k) k budget bytes;
      again = λ short. ap dump_report text ∙ again d is (subst (λ bs. length bs ≤ MAX_TEXT_BYTES) text short)
          ∙ ap (λ bs. record { bytes = bs; status = told.Done }) (sym lines);
    }
