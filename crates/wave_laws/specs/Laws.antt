-- What holds of the dump of a run.
use Rattle.std.specs.Prelude.{◌≡◌, ◌≤◌, ℕ, List, length}
use Rattle.forec_base.specs.declared.limits.TheConstants.{MAX_ROWS, MAX_TEXT_BYTES}
use Rattle.forec_kernel.specs.Shapes.{PlainKernel}
use Rattle.dump_report.specs.Told.{told_lines, dump_report}
use Rattle.dump_report.specs.declared.status.DumpStatus.TheVariants as told
use Rattle.text_verdict.specs.Judging.{Accepts, Judged}
use Rattle.text_verdict.specs.declared.counts.Counts.{Counts}
use Rattle.trace_ticks.specs.KernelNames.{run_format}
use Rattle.trace_ticks.specs.Report.{Report, trace_report}
use Rattle.trace_ticks.specs.declared.format.Telling.TheVariants as telling
use Rattle.wave_dump.specs.Wave.{PlainDump, IsDump, wave_text}
use Rattle.wave_laws.specs.Runs.{CanDump, run_dump}

-- The dump of a run tells the run: `wave` and `run` are what is written of it as a dump and as a report.
pub record TellsRun (d : PlainDump) (wave run : Report) : Type 0 where
  -- it is a dump, and its text is written
  pub dump : IsDump d
  pub text : wave.bytes ≡ wave_text d
  -- the report is what the dump tells, and both have one status
  pub lines : run.bytes ≡ told_lines d
  pub status : wave.status ≡ run.status
  -- what was written is told again as the bytes of the report, where it isn't too long
  pub again : length wave.bytes ≤ MAX_TEXT_BYTES → dump_report wave.bytes ≡ record { bytes = run.bytes; status = told.Done }

-- the kernel of each text that is accepted can be dumped
abbrev pub AcceptedTextsCanDump : Type 0
AcceptedTextsCanDump = (text : List ℕ) (counts : Counts) (k : PlainKernel) → Judged text (Accepts counts k) → CanDump k

-- of each run of each kernel that can be dumped, over any bytes and with any budget
abbrev pub DumpsTellRuns : Type 0
DumpsTellRuns = (limit : ℕ) (k : PlainKernel) (budget : ℕ) (bytes : List ℕ) → limit ≤ MAX_ROWS → CanDump k →
    TellsRun (run_dump limit k budget bytes) (trace_report limit (run_format telling.Wave k) k budget bytes)
    (trace_report limit (run_format telling.Report k) k budget bytes)
