-- The report of a log that is held to a run.
use Rattle.std.specs.Prelude.{◌≡◌, ◌≤◌, ◌<◌, ℕ, List, Option, None, Some, length}
use Rattle.forec_base.specs.declared.limits.TheConstants.{MAX_ROWS}
use Rattle.forec_kernel.specs.Shapes.{PlainKernel}
use Rattle.command_words.specs.declared.request.Budget.{Budget}
use Rattle.forec_engine.specs.Budgets.{budget_for, boundless}
use Rattle.forec_engine.specs.Farms.{too_long}
use Rattle.log_runs.specs.ReplayRuns.{IsReplay}
use Rattle.log_runs.specs.declared.replaying.TheConstants.{MAX_LOG_BYTES}
use Rattle.text_verdict.specs.declared.counts.Counts.{Counts}
use Rattle.trace_ticks.specs.Led.{IsTold}
use Rattle.trace_ticks.specs.Report.{Report}

-- r is what is told of the text of a log and a kernel's run over a trace of these bytes; where there is no bound, or the log is too long, r says so
pub data ReplayReport (k : PlainKernel) (b : Budget) (log bytes : List ℕ) (r : Report) : Type 0 where
  Of_no_bound : budget_for k b ≡ None → r ≡ boundless → ReplayReport k b log bytes r
  Of_long_log : (units : ℕ) → budget_for k b ≡ Some units → MAX_LOG_BYTES < length log → r ≡ too_long → ReplayReport k b log bytes r
  Of_replayed : (units : ℕ) → budget_for k b ≡ Some units → length log ≤ MAX_LOG_BYTES → IsReplay MAX_ROWS k units log bytes r → ReplayReport k b log bytes r

-- the same of the log of a name, and of what the trace tells
abbrev pub NamedReplay : (List ℕ → Option (List ℕ)) → List ℕ → Budget → Option (List ℕ) → PlainKernel → Report → Type 0
NamedReplay content log b trace k r = (text : List ℕ) × (bytes : List ℕ) × (content log ≡ Some text) × (trace ≡ Some bytes) × ReplayReport k b text bytes r

-- the same of a kernel of an accepted text
abbrev pub AcceptedReplay : (List ℕ → Option (List ℕ)) → List ℕ → Budget → Option (List ℕ) → Counts → PlainKernel → Report → Type 0
AcceptedReplay content log b trace counts k r = NamedReplay content log b trace k r

-- the text of the program is told, the log, and the trace
abbrev pub TellsReplay : (List ℕ → Option (List ℕ)) → List ℕ → List ℕ → Option (List ℕ) → Type 0
TellsReplay content name log trace = (text : List ℕ) × (lines : List ℕ) × (content name ≡ Some text) × (content log ≡ Some lines) × IsTold trace
