-- The report that words give.
use Rattle.std.specs.Prelude.{◌≡◌, ◌≤◌, ℕ, Bool, List, Option, Some, None, IfSome, codes}
use Rattle.forec_base.specs.declared.limits.TheConstants.{MAX_CORES, MAX_ROWS}
use Rattle.forec_kernel.specs.Shapes.{PlainKernel}
use Rattle.thread_code.specs.Alone.{Stands}
use Rattle.thread_code.specs.Listing.{listing_of}
use Rattle.thread_code.specs.Plain.{PlainCode}
use Rattle.thread_code.specs.Valid.{IsValidCode}
use Rattle.core_alloc.specs.Places.{Places}
use Rattle.core_alloc.specs.declared.fault.PlaceFault.{PlaceFault}
use Rattle.command_words.specs.Requests.{PlainPlacing, PlainRunning, PlainCommand, Run, Wave, Check, Threads, Code, Explain, PlainRequest, OnText, OnWorkload, OnDump, OnLog, OnReplay, request_of, OnTraces}
use Rattle.thread_places.specs.Lines.{thread_lines}
use Rattle.thread_places.specs.Placed.{IsPlacement}
use Rattle.workload.specs.Text.{workload_text}
use Rattle.forec_engine.specs.Dumps.{DumpReport}
use Rattle.text_verdict.specs.Counting.{counts_line}
use Rattle.text_verdict.specs.Judging.{refusal_line, Accepts, Refuses, Judged}
use Rattle.command_words.specs.declared.request.Budget.{Budget}
use Rattle.forec_engine.specs.Budgets.{budget_for, with_budget, IsSmallBudget}
use Rattle.forec_engine.specs.Farms.{FarmedReport, TellsFarm}
use Rattle.forec_engine.specs.Folds.{kernel_for}
use Rattle.forec_engine.specs.Logs.{AcceptedLog, TellsLog}
use Rattle.forec_engine.specs.Placing.{misplaced, misplacing, unless_misplaced}
use Rattle.forec_engine.specs.Replays.{AcceptedReplay, TellsReplay}
use Rattle.forec_engine.specs.Placing.{workload_report}
use Rattle.text_verdict.specs.declared.counts.Counts.{Counts}
use Rattle.text_verdict.specs.declared.refusal.Refusal.{Refusal}
use Rattle.trace_ticks.specs.KernelNames.{run_format}
use Rattle.trace_ticks.specs.Led.{IsTold}
use Rattle.trace_ticks.specs.Report.{Report, trace_report}
use Rattle.trace_ticks.specs.declared.format.Telling.{Telling}
use Rattle.trace_ticks.specs.declared.format.Telling.TheVariants as telling
use Rattle.trace_ticks.specs.declared.status.Status.TheVariants as status

abbrev pub usage_line : List ℕ
usage_line = codes "usage: forec run|check|threads|code|explain|gen|wave|unwave|log|replay|farm PROGRAM [MORE...] [--cores N] [--place LIST] [--budget B] [--order N] [--fold]\n"

abbrev pub usage : Report
usage = record { bytes = usage_line; status = status.Usage }

abbrev pub refused : Refusal → Report
refused why = record { bytes = refusal_line why; status = status.Refused }

abbrev pub counts_report : Counts → Report
counts_report c = record { bytes = counts_line c; status = status.Done }

-- the threads of a kernel, whose cores these are
abbrev pub threads_listed : PlainKernel → List ℕ → Report
threads_listed k places = record { bytes = thread_lines k places; status = status.Done }

-- the listing of a code
abbrev pub listing_report : PlainCode → Report
listing_report code = record { bytes = listing_of code; status = status.Done }

-- ---- reports

-- r lists a valid code that stands for a kernel
pub record IsListing (k : PlainKernel) (r : Report) : Type 0 where
  pub code : PlainCode
  pub valid : IsValidCode code
  pub stands : Stands code k
  pub lists : r ≡ listing_report code

-- what is told of a kernel that runs over a trace of these bytes; where the threads are placed doesn't show in it
abbrev pub run_report : Telling → PlainKernel → PlainRunning → List ℕ → Report
run_report tells k running bytes =
    with_budget (budget_for k running.budget)
    (λ units. unless_misplaced (misplacing k running.placing) (trace_report MAX_ROWS (run_format tells k) k units bytes))

-- the same of a kernel that is rewritten
abbrev pub explain_report : PlainKernel → Budget → List ℕ → Report
explain_report k b bytes = with_budget (budget_for k b) (λ units. trace_report MAX_ROWS (run_format telling.Report k) k units bytes)

-- r lists the threads of a kernel with their cores
pub data ThreadsReport (k : PlainKernel) (placing : PlainPlacing) (r : Report) : Type 0 where
  Of_misplaced : (why : PlaceFault) → misplacing k placing ≡ Some why → r ≡ misplaced why → ThreadsReport k placing r
  Of_placed : (p : Places) → misplacing k placing ≡ None → IsPlacement k placing p → r ≡ threads_listed k p.places → ThreadsReport k placing r

-- r is the report of a command on a text that is accepted, with these counts and this kernel, where the trace has these bytes.
-- Of `code` it is the listing of a valid code that stands for the kernel; which one is left open
abbrev pub AcceptedReport : PlainCommand → Option (List ℕ) → Counts → PlainKernel → Report → Type 0
AcceptedReport (Run running) trace counts k r = (bytes : List ℕ) × (trace ≡ Some bytes) × (r ≡ run_report telling.Report k running bytes)
AcceptedReport (Wave running) trace counts k r = (bytes : List ℕ) × (trace ≡ Some bytes) × (r ≡ run_report telling.Wave k running bytes)
AcceptedReport Check trace counts k r = r ≡ counts_report counts
AcceptedReport (Threads placing) trace counts k r = ThreadsReport k placing r
AcceptedReport (Explain b order) trace counts k r = (bytes : List ℕ) × (trace ≡ Some bytes) × (r ≡ explain_report k b bytes)
AcceptedReport Code trace counts k r = IsListing k r

-- the same of a command whose kernel has its constants folded first, or not
abbrev pub CommandReport : PlainCommand → Bool → Option (List ℕ) → Counts → PlainKernel → Report → Type 0
CommandReport command fold trace counts k r = AcceptedReport command trace counts (kernel_for fold k) r

-- a text has this program, where it is told: it is accepted, with these counts and this kernel
abbrev pub IsProgram : Option (List ℕ) → Counts → PlainKernel → Type 0
IsProgram text counts k = IfSome text (λ x. Judged x (Accepts counts k))

-- r says why a text is refused
abbrev pub IsRefusal : List ℕ → Report → Type 0
IsRefusal text r = (why : Refusal) × Judged text (Refuses why) × (r ≡ refused why)

-- r is the report of a text, where this is said of the counts, the kernel and the report of one that is accepted
pub data TextReport (text : List ℕ) (Says : Counts → PlainKernel → Report → Type 0) (r : Report) : Type 0 where
  Of_refusal : (why : Refusal) → Judged text (Refuses why) → r ≡ refused why → TextReport text Says r
  Of_accepted : (counts : Counts) (k : PlainKernel) → Judged text (Accepts counts k) → Says counts k r → TextReport text Says r

-- r is the report of the workload of so many threads, of which the text is judged like any other
abbrev pub WorkloadReport : ℕ → PlainRunning → Report → Type 0
WorkloadReport threads running r = TextReport (workload_text threads) (λ counts k q. q ≡ workload_report threads running k) r

-- r is the report of these words, where the texts have this content, and the trace these bytes
pub data IsReport (words : List (List ℕ)) (content : List ℕ → Option (List ℕ)) (trace : Option (List ℕ)) (r : Report) : Type 0 where
  Of_usage : request_of words ≡ None → r ≡ usage → IsReport words content trace r
  Of_text : (name : List ℕ) (command : PlainCommand) (fold : Bool) (text : List ℕ) → request_of words ≡ Some (OnText name command fold) → content name ≡ Some text
      → TextReport text (CommandReport command fold trace) r → IsReport words content trace r
  Of_workload : (threads : ℕ) (running : PlainRunning) → request_of words ≡ Some (OnWorkload threads running) → WorkloadReport threads running r
      → IsReport words content trace r
  Of_farm : (name : List ℕ) (traces : List (List ℕ)) (b : Budget) (text : List ℕ) → request_of words ≡ Some (OnTraces name traces b) → content name ≡ Some text
      → TextReport text (FarmedReport content traces b) r → IsReport words content trace r
  Of_log : (name : List ℕ) (running : PlainRunning) (text : List ℕ) → request_of words ≡ Some (OnLog name running) → content name ≡ Some text
      → TextReport text (AcceptedLog running trace) r → IsReport words content trace r
  Of_replay : (name log : List ℕ) (b : Budget) (text : List ℕ) → request_of words ≡ Some (OnReplay name log b) → content name ≡ Some text
      → TextReport text (AcceptedReplay content log b trace) r → IsReport words content trace r
  Of_dump : (name : List ℕ) → request_of words ≡ Some (OnDump name) → DumpReport content name r → IsReport words content trace r

-- ---- what is told

-- the trace is told, where the command reads it
abbrev pub TellsTrace : PlainCommand → Option (List ℕ) → Type 0
TellsTrace (Run running) trace = IsTold trace
TellsTrace (Wave running) trace = IsTold trace
TellsTrace Check trace = Unit {0}
TellsTrace (Threads placing) trace = Unit {0}
TellsTrace Code trace = Unit {0}
TellsTrace (Explain b order) trace = IsTold trace

-- the text of a name is told, and the trace where a command reads it
abbrev pub TellsNamed : (List ℕ → Option (List ℕ)) → List ℕ → PlainCommand → Option (List ℕ) → Type 0
TellsNamed content name command trace = (text : List ℕ) × (content name ≡ Some text) × TellsTrace command trace

-- the texts that the words name are told, and the trace where it is read
pub record IsKnown (words : List (List ℕ)) (content : List ℕ → Option (List ℕ)) (trace : Option (List ℕ)) : Type 0 where
  pub text : (name : List ℕ) (command : PlainCommand) (fold : Bool) → request_of words ≡ Some (OnText name command fold)
      → TellsNamed content name command trace
  pub dump : (name : List ℕ) → request_of words ≡ Some (OnDump name) → (text : List ℕ) × (content name ≡ Some text)
  pub farm : (name : List ℕ) (traces : List (List ℕ)) (b : Budget) → request_of words ≡ Some (OnTraces name traces b) → TellsFarm content name traces
  pub log : (name : List ℕ) (running : PlainRunning) → request_of words ≡ Some (OnLog name running) → TellsLog content name trace
  pub replay : (name log : List ℕ) (b : Budget) → request_of words ≡ Some (OnReplay name log b) → TellsReplay content name log trace

-- ---- ranges

-- there are 1 to 64 cores
pub record IsPlaceable (placing : PlainPlacing) : Type 0 where
  pub some : 1 ≤ placing.cores
  pub few : placing.cores ≤ MAX_CORES

-- and a budget of at most 2^62, or the bound
pub record IsRunnable (running : PlainRunning) : Type 0 where
  pub placeable : IsPlaceable running.placing
  pub small : IsSmallBudget running.budget

abbrev pub IsInRange : PlainCommand → Type 0
IsInRange (Run running) = IsRunnable running
IsInRange (Wave running) = IsRunnable running
IsInRange Check = Unit {0}
IsInRange (Threads placing) = IsPlaceable placing
IsInRange Code = Unit {0}
IsInRange (Explain b order) = IsSmallBudget b

abbrev pub HasRanges : PlainRequest → Type 0
HasRanges (OnText name command fold) = IsInRange command
HasRanges (OnWorkload threads running) = (threads ≤ 255) × IsRunnable running
HasRanges (OnTraces name traces b) = IsSmallBudget b
HasRanges (OnLog name running) = IsRunnable running
HasRanges (OnReplay name log b) = IsSmallBudget b
HasRanges (OnDump name) = Unit {0}
