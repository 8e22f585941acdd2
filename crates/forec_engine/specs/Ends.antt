-- How a command ends.
use Rattle.std.specs.Prelude.{Contains, false, [], ◌∷◌, ◌≡◌, ◌≤◌, ◌⊎◌, length, ℕ, Bool, List, Option, None, Some, IfSome}
use Rattle.forec_base.specs.declared.limits.TheConstants.{MAX_ROWS}
use Rattle.forec_kernel.specs.Shapes.{PlainKernel}
use Rattle.command_words.specs.Requests.{PlainPlacing, PlainRunning, PlainCommand, Run, Wave, Check, Threads, Code, Explain, PlainRequest, OnText, OnWorkload, OnDump, OnLog, OnReplay, request_of, OnTraces}
use Rattle.workload.specs.Text.{workload_text}
use Rattle.text_verdict.specs.Judging.{Accepts, Judged}
use Rattle.command_words.specs.declared.request.Budget.{Budget}
use Rattle.forec_engine.specs.Budgets.{budget_for, IsBoundless}
use Rattle.forec_engine.specs.Folds.{kernel_for}
use Rattle.forec_engine.specs.Placing.{misplacing, IsMisplaced, IsRefusedRun}
use Rattle.log_runs.specs.ReplayRuns.{WantedByReplay, ReadForReplay}
use Rattle.log_runs.specs.RunLogs.{WantedUntold}
use Rattle.log_runs.specs.declared.replaying.TheConstants.{MAX_LOG_BYTES}
use Rattle.trace_ticks.specs.Ends.{Wanted, ReadFor}
use Rattle.trace_ticks.specs.KernelNames.{run_format}
use Rattle.trace_ticks.specs.declared.format.Telling.{Telling}
use Rattle.trace_ticks.specs.declared.format.Telling.TheVariants as telling
use Rattle.text_verdict.specs.declared.counts.Counts.{Counts}

-- A text of this kernel runs with so many units a tick: it is accepted, and neither the budget nor a list of places is refused for the
-- kernel that runs.
pub record RunsAs (text : List ℕ) (fold : Bool) (running : PlainRunning) (k : PlainKernel) (units : ℕ) : Type 0 where
  pub counts : Counts
  pub judged : Judged text (Accepts counts k)
  pub bounded : budget_for (kernel_for fold k) running.budget ≡ Some units
  pub placed : misplacing (kernel_for fold k) running.placing ≡ None

-- the command that runs so and tells this
abbrev pub run_with : Telling → PlainRunning → PlainCommand
run_with telling.Report running = Run running
run_with telling.Wave running = Wave running

-- what a command tells of a run
abbrev pub telling_in : PlainCommand → Telling
telling_in (Run running) = telling.Report
telling_in (Wave running) = telling.Wave
telling_in Check = telling.Report
telling_in (Threads placing) = telling.Report
telling_in (Explain budget order) = telling.Report
telling_in Code = telling.Report

-- the trace was wanted by the kernel of a text, of which this is told
abbrev pub WantedByText : Telling → Bool → PlainRunning → List ℕ → Option (List ℕ) → Option (List ℕ) → Option (List ℕ) → Option (List ℕ) → Type 0
WantedByText tells fold running text left_old left_new held_old held_new =
    (k : PlainKernel) × (units : ℕ) × RunsAs text fold running k units
    × Wanted MAX_ROWS (run_format tells (kernel_for fold k)) (kernel_for fold k) units left_old left_new held_old held_new

-- how a command runs over the trace, where it does; rewriting has no list of places
abbrev pub running_in : PlainCommand → Option PlainRunning
running_in (Run running) = Some running
running_in (Wave running) = Some running
running_in Check = None
running_in (Threads placing) = None
running_in (Explain budget order) = Some (record { placing = record { cores = 1; list = None }; budget = budget })
running_in Code = None

-- the trace was wanted by the kernel of a text, of whose run nothing is told
abbrev pub WantedForLog : PlainRunning → List ℕ → Option (List ℕ) → Option (List ℕ) → Option (List ℕ) → Option (List ℕ) → Type 0
WantedForLog running text left_old left_new held_old held_new =
    (k : PlainKernel) × (units : ℕ) × RunsAs text false running k units × WantedUntold MAX_ROWS k units left_old left_new held_old held_new

-- A text of this kernel and a log are replayed with so many units a tick: the text is accepted, the budget isn't refused, and
-- the log is told, and isn't too long.
pub record ReplaysAs (content : List ℕ → Option (List ℕ)) (log : List ℕ) (b : Budget) (text : List ℕ) (k : PlainKernel) (units : ℕ) (lines : List ℕ) : Type 0 where
  pub counts : Counts
  pub judged : Judged text (Accepts counts k)
  pub bounded : budget_for k b ≡ Some units
  pub told : content log ≡ Some lines
  pub short : length lines ≤ MAX_LOG_BYTES

-- the trace was wanted by a replay of the kernel of a text, where the log is told
abbrev pub WantedForReplay : (List ℕ → Option (List ℕ)) → List ℕ → Budget → List ℕ → Option (List ℕ) → Option (List ℕ) → Option (List ℕ) → Option (List ℕ) → Type 0
WantedForReplay content log b text left_old left_new held_old held_new =
    IfSome (content log) (λ lines. (k : PlainKernel) × (units : ℕ) × ReplaysAs content log b text k units lines
    × WantedByReplay MAX_ROWS k units lines left_old left_new held_old held_new)

-- the same by words, which are a command that runs over the trace
pub data WantedByWords (words : List (List ℕ)) (content : List ℕ → Option (List ℕ)) (left_old left_new held_old held_new : Option (List ℕ)) : Type 0 where
  Wanted_by_run : (running : PlainRunning) (name : List ℕ) (command : PlainCommand) (fold : Bool) → request_of words ≡ Some (OnText name command fold)
      → running_in command ≡ Some running → IfSome (content name) (λ text. WantedByText (telling_in command) fold running text left_old left_new held_old held_new)
      → WantedByWords words content left_old left_new held_old held_new
  Wanted_by_replay : (name log : List ℕ) (b : Budget) → request_of words ≡ Some (OnReplay name log b)
      → IfSome (content name) (λ text. WantedForReplay content log b text left_old left_new held_old held_new) → WantedByWords words content left_old left_new held_old held_new
  Wanted_by_log : (running : PlainRunning) (name : List ℕ) → request_of words ≡ Some (OnLog name running)
      → IfSome (content name) (λ text. WantedForLog running text left_old left_new held_old held_new) → WantedByWords words content left_old left_new held_old held_new

-- ---- reads of the trace

-- the trace was read for a replay of the kernel of a text, where the log is told
abbrev pub ReadForReplayOf : {S : Type 0} → (S → Option (List ℕ)) → (S → ℕ) → (S → Bool) → (List ℕ → Option (List ℕ)) → List ℕ → Budget → List ℕ → S → S → Type 0
ReadForReplayOf left faults down content log b text old new =
    IfSome (content log) (λ lines. (k : PlainKernel) × (units : ℕ) × ReplaysAs content log b text k units lines
    × ReadForReplay left faults down MAX_ROWS k units lines old new)

-- the trace was read for the kernel of a text, which runs
abbrev pub ReadForText : {S : Type 0} → (S → Option (List ℕ)) → (S → ℕ) → (S → Bool) → Telling → Bool → PlainRunning → List ℕ → S → S → Type 0
ReadForText left faults down tells fold running text old new =
    (k : PlainKernel) × (units : ℕ) × RunsAs text fold running k units
    × ReadFor left faults down MAX_ROWS (run_format tells (kernel_for fold k)) (kernel_for fold k) units old new

-- the same for words, which are a command that runs over the trace
pub data ReadForWords {S : Type 0} (left : S → Option (List ℕ)) (faults : S → ℕ) (down : S → Bool) (words : List (List ℕ)) (content : List ℕ → Option (List ℕ)) (old new : S) : Type 0 where
  Read_for_run : (running : PlainRunning) (name : List ℕ) (command : PlainCommand) (fold : Bool) → request_of words ≡ Some (OnText name command fold)
      → running_in command ≡ Some running → IfSome (content name) (λ text. ReadForText left faults down (telling_in command) fold running text old new)
      → ReadForWords left faults down words content old new
  Read_for_replay : (name log : List ℕ) (b : Budget) → request_of words ≡ Some (OnReplay name log b)
      → IfSome (content name) (λ text. ReadForReplayOf left faults down content log b text old new) → ReadForWords left faults down words content old new
  Read_for_log : (running : PlainRunning) (name : List ℕ) → request_of words ≡ Some (OnLog name running)
      → IfSome (content name) (λ text. ReadForText left faults down telling.Report false running text old new) → ReadForWords left faults down words content old new

-- ---- misuse

-- how a command places threads, where it does
abbrev pub placing_in : PlainCommand → Option PlainPlacing
placing_in (Run running) = Some running.placing
placing_in (Wave running) = Some running.placing
placing_in Check = None
placing_in (Threads placing) = Some placing
placing_in Code = None
placing_in (Explain b order) = None

-- a command is refused for a kernel: its budget is the bound, and there is none, or its list of places is refused
abbrev pub CommandIsMisused : PlainCommand → PlainKernel → Type 0
CommandIsMisused command k =
    ((running : PlainRunning) × (running_in command ≡ Some running) × IsBoundless k running.budget)
    ⊎ ((placing : PlainPlacing) × (placing_in command ≡ Some placing) × IsMisplaced k placing)

-- the same of the kernel that the command is done with
abbrev pub FoldedIsMisused : PlainCommand → Bool → PlainKernel → Type 0
FoldedIsMisused command fold k = CommandIsMisused command (kernel_for fold k)

-- a text is accepted, and this holds of its kernel
abbrev pub AcceptedSo : (PlainKernel → Type 0) → List ℕ → Type 0
AcceptedSo P text = (counts : Counts) × (k : PlainKernel) × Judged text (Accepts counts k) × P k

-- the words ask for nothing, or they are refused for the kernel of an accepted text
pub data IsMisuse (words : List (List ℕ)) (content : List ℕ → Option (List ℕ)) : Type 0 where
  Asks_nothing : request_of words ≡ None → IsMisuse words content
  Misuses : (name : List ℕ) (command : PlainCommand) (fold : Bool) → request_of words ≡ Some (OnText name command fold)
      → IfSome (content name) (AcceptedSo (FoldedIsMisused command fold)) → IsMisuse words content
  Misuses_farm : (name : List ℕ) (traces : List (List ℕ)) (b : Budget) → request_of words ≡ Some (OnTraces name traces b)
      → IfSome (content name) (AcceptedSo (λ k. IsBoundless k b)) → IsMisuse words content
  Misuses_log : (name : List ℕ) (running : PlainRunning) → request_of words ≡ Some (OnLog name running)
      → IfSome (content name) (AcceptedSo (λ k. IsRefusedRun k running)) → IsMisuse words content
  Misuses_replay : (name log : List ℕ) (b : Budget) → request_of words ≡ Some (OnReplay name log b)
      → IfSome (content name) (AcceptedSo (λ k. IsBoundless k b)) → IsMisuse words content
  Misuses_workload : (threads : ℕ) (running : PlainRunning) → request_of words ≡ Some (OnWorkload threads running)
      → AcceptedSo (λ k. IsRefusedRun k running) (workload_text threads) → IsMisuse words content

-- ---- texts

-- the names of the texts that are asked for
abbrev pub asked_names : PlainRequest → List (List ℕ)
asked_names (OnText name command fold) = name ∷ []
asked_names (OnWorkload threads running) = []
asked_names (OnDump name) = name ∷ []
asked_names (OnTraces name traces b) = name ∷ traces
asked_names (OnLog name running) = name ∷ []
asked_names (OnReplay name log b) = name ∷ log ∷ []

-- the words name this text
pub record NameThis (words : List (List ℕ)) (name : List ℕ) : Type 0 where
  pub request : PlainRequest
  pub asks : request_of words ≡ Some request
  pub names : Contains (asked_names request) name

-- the words name a text
abbrev pub NameText : List (List ℕ) → Type 0
NameText words = (name : List ℕ) × NameThis words name

-- ---- rewriting

abbrev pub Rewrites : PlainCommand → Type 0
Rewrites command = (budget : Budget) × (order : ℕ) × (command ≡ Explain budget order)

-- the words ask for rewriting
abbrev pub AskForRewriting : List (List ℕ) → Type 0
AskForRewriting words = (name : List ℕ) × (command : PlainCommand) × (fold : Bool) × (request_of words ≡ Some (OnText name command fold)) × Rewrites command
