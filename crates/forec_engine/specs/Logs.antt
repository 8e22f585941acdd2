-- The report of a run whose exchanges are logged.
use Rattle.std.specs.Prelude.{◌≡◌, ℕ, List, Option, None, Some}
use Rattle.forec_base.specs.declared.limits.TheConstants.{MAX_ROWS}
use Rattle.forec_kernel.specs.Shapes.{PlainKernel}
use Rattle.core_alloc.specs.declared.fault.PlaceFault.{PlaceFault}
use Rattle.command_words.specs.Requests.{PlainRunning}
use Rattle.forec_engine.specs.Budgets.{budget_for, boundless}
use Rattle.forec_engine.specs.Placing.{misplaced, misplacing}
use Rattle.log_runs.specs.RunLogs.{IsRunLog}
use Rattle.text_verdict.specs.declared.counts.Counts.{Counts}
use Rattle.trace_ticks.specs.Led.{IsTold}
use Rattle.trace_ticks.specs.Report.{Report}

-- r is the log of a kernel that runs so over a trace of these bytes; where there is no bound, or the list of places is refused, r says so
pub data LogReport (k : PlainKernel) (running : PlainRunning) (bytes : List ℕ) (r : Report) : Type 0 where
  Of_boundless : budget_for k running.budget ≡ None → r ≡ boundless → LogReport k running bytes r
  Of_misplaced_run : (units : ℕ) (why : PlaceFault) → budget_for k running.budget ≡ Some units → misplacing k running.placing ≡ Some why → r ≡ misplaced why
      → LogReport k running bytes r
  Of_logged : (units : ℕ) → budget_for k running.budget ≡ Some units → misplacing k running.placing ≡ None → IsRunLog MAX_ROWS k units bytes r → LogReport k running bytes r

-- the same of a kernel of an accepted text, and of what the trace tells
abbrev pub AcceptedLog : PlainRunning → Option (List ℕ) → Counts → PlainKernel → Report → Type 0
AcceptedLog running trace counts k r = (bytes : List ℕ) × (trace ≡ Some bytes) × LogReport k running bytes r

-- the text of the program is told, and the trace
abbrev pub TellsLog : (List ℕ → Option (List ℕ)) → List ℕ → Option (List ℕ) → Type 0
TellsLog content name trace = (text : List ℕ) × (content name ≡ Some text) × IsTold trace
