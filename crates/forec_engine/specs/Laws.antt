-- What holds of all reports.
use Rattle.std.specs.Prelude.{◌≡◌, ◌≢◌, ◌⊎◌, ◌↔◌, ◌≤◌, length, ℕ, Bool, true, false, List, Option, Some}
use Rattle.forec_kernel.specs.Shapes.{PlainKernel}
use Rattle.command_words.specs.Requests.{PlainRunning, PlainCommand, OnText, OnWorkload, OnTraces, OnLog, OnReplay, Code, request_of}
use Rattle.command_words.specs.declared.request.Budget.{Budget}
use Rattle.command_words.specs.declared.request.Budget.TheVariants as budget
use Rattle.workload.specs.Text.{workload_text}
use Rattle.text_verdict.specs.Judging.{Accepts, Judged}
use Rattle.text_verdict.specs.declared.counts.Counts.{Counts}
use Rattle.exchange_meaning.specs.LogLines.{IsLogText}
use Rattle.log_runs.specs.ReplayRuns.{replay_ok}
use Rattle.log_runs.specs.declared.replaying.TheConstants.{MAX_LOG_BYTES}
use Rattle.forec_base.specs.declared.limits.TheConstants.{MAX_ROWS}
use Rattle.forec_engine.specs.Budgets.{budget_for, Covers}
use Rattle.forec_engine.specs.Folds.{kernel_for}
use Rattle.forec_engine.specs.Commands.{IsListing, IsReport, IsKnown}
use Rattle.forec_engine.specs.Ends.{running_in}
use Rattle.trace_ticks.specs.KernelNames.{run_format}
use Rattle.trace_ticks.specs.Report.{Report, trace_report, trace_turns}
use Rattle.trace_ticks.specs.declared.format.Telling.TheVariants as telling
use Rattle.trace_ticks.specs.declared.status.Status.TheVariants as status

-- the words ask for the listing of a code
abbrev pub AskForCode : List (List ℕ) → Type 0
AskForCode words = (name : List ℕ) × (fold : Bool) × (request_of words ≡ Some (OnText name Code fold))

-- words other than `code P` have one report at most
abbrev pub OneReport : Type 0
OneReport =
    (words : List (List ℕ)) (content : List ℕ → Option (List ℕ)) (trace : Option (List ℕ)) (r q : Report) → (AskForCode words → ⊥) →
    IsReport words content trace r → IsReport words content trace q → r ≡ q

-- two listings of valid codes that stand for one kernel
pub record ListOneKernel (r q : Report) : Type 0 where
  pub kernel : PlainKernel
  pub first : IsListing kernel r
  pub second : IsListing kernel q

-- any words have one report at most, up to which code stands for the kernel
abbrev pub AlikeReports : Type 0
AlikeReports =
    (words : List (List ℕ)) (content : List ℕ → Option (List ℕ)) (trace : Option (List ℕ)) (r q : Report) →
    IsReport words content trace r → IsReport words content trace q → (r ≡ q) ⊎ ListOneKernel r q

-- where the texts and the trace are told, it can't be that words have no report
abbrev pub SomeReport : Type 0
SomeReport =
    (words : List (List ℕ)) (content : List ℕ → Option (List ℕ)) (trace : Option (List ℕ)) → IsKnown words content trace → ((r : Report) → IsReport words content trace r → ⊥) → ⊥

-- the words run a kernel with a budget of at least its worst case, where they run one at all
pub record CoverTheirKernel (words : List (List ℕ)) (content : List ℕ → Option (List ℕ)) : Type 0 where
  pub text : (name : List ℕ) (command : PlainCommand) (fold : Bool) (text : List ℕ) (running : PlainRunning) (counts : Counts) (k : PlainKernel)
      → request_of words ≡ Some (OnText name command fold) → content name ≡ Some text → running_in command ≡ Some running → Judged text (Accepts counts k)
      → Covers (kernel_for fold k) running.budget
  pub workload : (threads : ℕ) (running : PlainRunning) (counts : Counts) (k : PlainKernel) → request_of words ≡ Some (OnWorkload threads running)
      → Judged (workload_text threads) (Accepts counts k) → Covers k running.budget
  pub farm : (name : List ℕ) (traces : List (List ℕ)) (b : Budget) (text : List ℕ) (counts : Counts) (k : PlainKernel) → request_of words ≡ Some (OnTraces name traces b)
      → content name ≡ Some text → Judged text (Accepts counts k) → Covers k b
  pub replay : (name log : List ℕ) (b : Budget) (text : List ℕ) (counts : Counts) (k : PlainKernel) → request_of words ≡ Some (OnReplay name log b)
      → content name ≡ Some text → Judged text (Accepts counts k) → Covers k b
  pub log : (name : List ℕ) (running : PlainRunning) (text : List ℕ) (counts : Counts) (k : PlainKernel) → request_of words ≡ Some (OnLog name running)
      → content name ≡ Some text → Judged text (Accepts counts k) → Covers k running.budget

-- with such a budget no report of a run says that it is over
abbrev pub CoveredNeverOver : Type 0
CoveredNeverOver =
    (words : List (List ℕ)) (content : List ℕ → Option (List ℕ)) (trace : Option (List ℕ)) (r : Report) → CoverTheirKernel words content → IsReport words content trace r →
    r.status ≢ status.Over

-- the bound is such a budget
abbrev pub BoundCovers : Type 0
BoundCovers = (k : PlainKernel) → Covers k budget.Bound

-- the words ask for the bound as the budget
pub data AskForBound (words : List (List ℕ)) : Type 0 where
  Of_run : (name : List ℕ) (command : PlainCommand) (fold : Bool) (running : PlainRunning) → request_of words ≡ Some (OnText name command fold) → running_in command ≡ Some running
      → running.budget ≡ budget.Bound → AskForBound words
  Of_gen : (threads : ℕ) (running : PlainRunning) → request_of words ≡ Some (OnWorkload threads running) → running.budget ≡ budget.Bound → AskForBound words
  Of_log_run : (name : List ℕ) (running : PlainRunning) → request_of words ≡ Some (OnLog name running) → running.budget ≡ budget.Bound → AskForBound words
  Of_replay_run : (name log : List ℕ) (b : Budget) → request_of words ≡ Some (OnReplay name log b) → b ≡ budget.Bound → AskForBound words
  Of_traces : (name : List ℕ) (traces : List (List ℕ)) (b : Budget) → request_of words ≡ Some (OnTraces name traces b) → b ≡ budget.Bound → AskForBound words

-- with it no report says that a run is over
abbrev pub BoundNeverOver : Type 0
BoundNeverOver =
    (words : List (List ℕ)) (content : List ℕ → Option (List ℕ)) (trace : Option (List ℕ)) (r : Report) → AskForBound words → IsReport words content trace r → r.status ≢ status.Over

-- ---- folding

-- Two lists of words run or explain one program with so many units a tick, and one of them folds its constants.
pub record DifferByFold (words folding : List (List ℕ)) : Type 0 where
  pub name : List ℕ
  pub command : PlainCommand
  pub running : PlainRunning
  pub units : ℕ
  pub plain : request_of words ≡ Some (OnText name command false)
  pub folded : request_of folding ≡ Some (OnText name command true)
  pub runs : running_in command ≡ Some running
  pub limited : running.budget ≡ budget.Units units

-- then they have the same report, where that without folding doesn't say that a tick is over
abbrev pub FoldingPrintsTheSame : Type 0
FoldingPrintsTheSame =
    (words folding : List (List ℕ)) (content : List ℕ → Option (List ℕ)) (trace : Option (List ℕ)) (r : Report) → DifferByFold words folding → IsReport words content trace r →
    r.status ≢ status.Over → IsReport folding content trace r

-- ---- replays

-- The words replay a log of this text over a trace of these bytes, with so many units a tick, for this kernel of an accepted text.
pub record ReplaysSo (words : List (List ℕ)) (content : List ℕ → Option (List ℕ)) (trace : Option (List ℕ)) (k : PlainKernel) (units : ℕ) (lines bytes : List ℕ) : Type 0 where
  pub name : List ℕ
  pub log : List ℕ
  pub budget : Budget
  pub text : List ℕ
  pub counts : Counts
  pub asks : request_of words ≡ Some (OnReplay name log budget)
  pub program : content name ≡ Some text
  pub judged : Judged text (Accepts counts k)
  pub bounded : budget_for k budget ≡ Some units
  pub told : content log ≡ Some lines
  pub short : length lines ≤ MAX_LOG_BYTES
  pub over : trace ≡ Some bytes

-- `replay ok`, behind the report of the run, is told exactly where the text is the log of the run
abbrev pub ReplayOkIsTheLog : Type 0
ReplayOkIsTheLog =
    (words : List (List ℕ)) (content : List ℕ → Option (List ℕ)) (trace : Option (List ℕ)) (k : PlainKernel) (units : ℕ) (lines bytes : List ℕ) (r : Report) →
    ReplaysSo words content trace k units lines bytes → IsReport words content trace r →
    (r ≡ replay_ok (trace_report MAX_ROWS (run_format telling.Report k) k units bytes)) ↔ IsLogText k (trace_turns MAX_ROWS k units bytes) lines
