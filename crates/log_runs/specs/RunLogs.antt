-- The log of a run over a trace.
use Rattle.std.specs.Prelude.{◌≡◌, ◌≤◌, ◌<◌, ℕ, Bool, List, Option, Some, length, codes}
use Rattle.forec_base.specs.Outside.{Fell}
use Rattle.forec_kernel.specs.Shapes.{PlainShape, PlainKernel}
use Rattle.exchange_meaning.specs.Logged.{ExchangeLog}
use Rattle.exchange_meaning.specs.LogLines.{log_text}
use Rattle.exchange_meaning.specs.LogOf.{LogOfTicks}
use Rattle.exchange_log.specs.Posted.{log_words}
use Rattle.log_runs.specs.declared.logging.TheConstants.{LOG_WORDS}
use Rattle.trace_rows.specs.Calls.{IfTold}
use Rattle.trace_ticks.specs.Ends.{PrintedFor, ReadFor}
use Rattle.trace_ticks.specs.KernelNames.{run_format}
use Rattle.trace_ticks.specs.Led.{IsTold}
use Rattle.trace_ticks.specs.Prints.{Prints}
use Rattle.trace_ticks.specs.Report.{Report, trace_report, trace_turns}
use Rattle.trace_ticks.specs.declared.format.Telling.TheVariants as telling
use Rattle.trace_ticks.specs.declared.status.Status.{Status}
use Rattle.trace_ticks.specs.declared.status.Status.TheVariants as status

-- what is said of a log that needs more words than are kept
abbrev pub log_full : Report
log_full = record { bytes = codes "log full\n"; status = status.Full }

-- a log of a shape, of a run that ended so
abbrev pub logged_report : PlainShape → ExchangeLog → Status → Report
logged_report s log end = record { bytes = log_text (length s.threads) log; status = end }

-- r has the text of a log and the status of its run; where the log needs more words than are kept, it says so
pub data IsLogReport (s : PlainShape) (log : ExchangeLog) (end : Status) (r : Report) : Type 0 where
  Of_kept : log_words s log ≤ LOG_WORDS → r ≡ logged_report s log end → IsLogReport s log end r
  Of_full : LOG_WORDS < log_words s log → r ≡ log_full → IsLogReport s log end r

-- the status of a kernel's run over a trace of these bytes
abbrev pub run_status : (limit : ℕ) → PlainKernel → ℕ → List ℕ → Status
run_status limit k budget bytes = (trace_report limit (run_format telling.Report k) k budget bytes).status

-- r is the report of the log of a kernel's run over a trace of these bytes
pub record IsRunLog (limit : ℕ) (k : PlainKernel) (budget : ℕ) (bytes : List ℕ) (r : Report) : Type 0 where
  pub log : ExchangeLog
  pub is : LogOfTicks k (trace_turns limit k budget bytes) log
  pub tells : IsLogReport k.shape log (run_status limit k budget bytes) r

-- the same for what is left of a trace
abbrev pub IsTraceLog : ℕ → PlainKernel → ℕ → Option (List ℕ) → Report → Type 0
IsTraceLog limit k budget left r = (bytes : List ℕ) × (left ≡ Some bytes) × IsRunLog limit k budget bytes r

-- the trace was wanted by a kernel, of whose run nothing is told: no line that came whole stops it
abbrev pub WantedUntold : ℕ → PlainKernel → ℕ → Option (List ℕ) → Option (List ℕ) → Option (List ℕ) → Option (List ℕ) → Type 0
WantedUntold limit k budget left_old left_new held_old held_new =
    (held_new ≡ held_old) × (bytes : List ℕ) × IfTold left_old left_new (PrintedFor limit (run_format telling.Report k) k budget bytes)

-- A kernel was run over a trace, of which at most `limit` rows, and then its log was told. (As in `RunsRows`.)
pub record LogsRows {S K : Type 0} (left : S → Option (List ℕ)) (faults : S → ℕ) (down : S → Bool) (held : K → Option (List ℕ)) (lost : K → ℕ) (is_down : K → Bool)
    (limit : ℕ) (k : PlainKernel) (budget : ℕ) (old new : S) (out_old out_new : K) (end : Status) : Type 0 where
  pub prints : Prints held lost is_down (IsTold (left old)) (IsTraceLog limit k budget (left old)) ⊥
      (Fell (faults old) (faults new) (down new) × WantedUntold limit k budget (left old) (left new) (held out_old) (held out_new)) ⊥ out_old out_new end
  pub trace : ReadFor left faults down limit (run_format telling.Report k) k budget old new
