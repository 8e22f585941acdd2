-- With a budget of at least the worst case no report says that a run is over.
use Rattle.std.proofs.Common.{◌≡◌, ◌≢◌, ◌≤◌, ℕ, ℤ, nat_lt, nat_le, Bool, true, false, cond, if◌then◌else◌, List, [], ◌∷◌, map, length, Option, Some, None, replicate, refl, sym, ap, subst, ◌∙◌, arith}
use Rattle.forec_base.specs.declared.limits.TheConstants.{MAX_BUDGET, MAX_ROWS}
use Rattle.trace_ticks.specs.declared.generated.TheConstants.{WORKLOAD_TICKS}
use Rattle.forec_kernel.specs.Shapes.{PlainKernel}
use Rattle.forec_kernel.specs.Ticks.{Tick, run_of}
use Rattle.forec_kernel.specs.declared.shape.Outcome.{Outcome}
use Rattle.forec_kernel.specs.declared.shape.Outcome.TheVariants as outcome
use Rattle.tick_bounds.specs.Bound.{worst_case}
use Rattle.bound_laws.specs.Laws.{NoneOver, RunsNeverOver}
use Rattle.core_alloc.specs.declared.fault.PlaceFault.{PlaceFault}
use Rattle.command_words.specs.Requests.{PlainPlacing, PlainRunning, PlainCommand, Run, Wave, Check, Threads, Code, Explain, OnText, OnWorkload, OnLog, OnReplay, request_of, OnTraces}
use Rattle.command_words.specs.declared.request.Budget.{Budget}
use Rattle.command_words.specs.declared.request.Budget.TheVariants as budget
use Rattle.workload.specs.Text.{workload_text}
use Rattle.text_verdict.specs.Judging.{Accepts, Judged}
use Rattle.fold_laws.specs.Laws.{FoldingKeepsForm, FoldingKeepsPaced}
use Rattle.fold_laws.specs.Folding.{folded_kernel}
use Rattle.text_verdict.specs.Laws.{AcceptedTextsAreFormed, AcceptedTextsArePaced, AcceptedTextsAreNeverOver}
use Rattle.text_verdict.specs.declared.counts.Counts.{Counts}
use Rattle.trace_rows.specs.Trace.{TraceEnd, trace_of}
use Rattle.trace_rows.specs.declared.fault.RowFault.{RowFault}
use Rattle.trace_ticks.specs.KernelNames.{input_names, run_format}
use Rattle.trace_ticks.specs.declared.format.Format.{Format}
use Rattle.trace_ticks.specs.declared.format.Telling.{Telling}
use Rattle.trace_ticks.specs.declared.format.Telling.TheVariants as telling
use Rattle.trace_ticks.specs.Report.{Report, last_outcome, end_of_trace, ending, trace_report}
use Rattle.trace_ticks.specs.Workload.{ticks_report, ticked_report, workload_ticks, zero_row}
use Rattle.trace_ticks.specs.declared.status.Status.{Status}
use Rattle.trace_ticks.specs.declared.status.Status.TheVariants as status
use Rattle.forec_engine.specs.Budgets.{budget_for, with_budget, Covers}
use Rattle.forec_engine.specs.Folds.{kernel_for}
use Rattle.forec_engine.specs.Logs.{LogReport, Of_boundless, Of_misplaced_run, Of_logged, AcceptedLog}
use Rattle.forec_engine.specs.Replays.{ReplayReport, Of_no_bound, Of_long_log, Of_replayed, AcceptedReplay}
use Rattle.log_runs.specs.ReplayRuns.{IsReplay, Of_no_log, Of_thread, Of_tick, Of_left, Of_same}
use Rattle.log_runs.specs.RunLogs.{IsLogReport, Of_kept, Of_full, run_status}
use Rattle.forec_engine.specs.Commands.{ThreadsReport, Of_misplaced, Of_placed, AcceptedReport, CommandReport, Of_usage, Of_text, Of_workload, Of_dump, TextReport, Of_refusal, Of_accepted, run_report, Of_farm, Of_log, Of_replay}
use Rattle.forec_engine.specs.Ends.{running_in}
use Rattle.forec_engine.specs.Laws.{CoveredNeverOver, BoundCovers, AskForBound, Of_run, Of_gen, Of_traces, Of_log_run, Of_replay_run, BoundNeverOver}
use Rattle.forec_engine.specs.Farms.{too_long, farmed, worst, farm_report, FarmedReport}
use Rattle.forec_engine.specs.declared.farm_traces.TheConstants.{FARM_ROWS}
use Rattle.forec_base.specs.declared.limits.TheConstants.{MAX_TEXT_BYTES}
use Rattle.trace_ticks.specs.StatusNumbers.{status_number}
use Rattle.forec_engine.specs.Placing.{misplacing, unless_misplaced, workload_report}
use Rattle.forec_engine.proofs.DumpLemmas.{dump_never}
use Rattle.forec_engine.proofs.Reports.{some_same, command_same, running_same, never_text, farm_budget_same, never_farm, never_workload, text_no_log, workload_no_log, farm_no_log, log_running_same, text_no_replay, workload_no_replay, farm_no_replay, log_no_replay, replay_budget_same}

-- ---- ticks

last_never : (ts : List Tick) → NoneOver ts → last_outcome ts ≢ outcome.Over
last_never [] h e = cc
last_never (t ∷ []) h e = h.0 e
last_never (t ∷ u ∷ ts) h e = last_never (u ∷ ts) h.1 e

trace_end : (how : Format) (f : Option RowFault) (n : ℕ) → (end_of_trace how f n).status ≢ status.Over
trace_end how None n e = cc
trace_end how (Some f) n e = cc

ending_never : (how : Format) (o : Outcome) (end : TraceEnd) → o ≢ outcome.Over → (ending how o end).status ≢ status.Over
ending_never how outcome.Paused end h e = trace_end how end.cause end.line e
ending_never how outcome.Ended end h e = cc
ending_never how (outcome.Trapped place trap) end h e = cc
ending_never how outcome.Over end h e = h refl

ticks_never : (threads b : ℕ) (ts : List Tick) (o : Outcome) → o ≢ outcome.Over → (ticks_report threads b ts o).status ≢ status.Over
ticks_never threads b ts outcome.Paused h e = cc
ticks_never threads b ts outcome.Ended h e = cc
ticks_never threads b ts (outcome.Trapped place trap) h e = cc
ticks_never threads b ts outcome.Over h e = h refl

-- no run of a kernel with so many units is over
abbrev NoRunOver : PlainKernel → ℕ → Type 0
NoRunOver k units = (rows : List (List ℤ)) → NoneOver (run_of k units rows)

limited_never : (rows : ℕ) (tells : Telling) (k : PlainKernel) (units : ℕ) (bytes : List ℕ) → NoRunOver k units → (trace_report rows (run_format tells k) k units bytes).status ≢ status.Over
unfolding trace_report
limited_never rows tells k units bytes never =
    let trace = trace_of (input_names k) rows bytes in
    ending_never (run_format tells k) (last_outcome (run_of k units trace.rows)) trace.end (last_never (run_of k units trace.rows) (never trace.rows))

trace_never : (tells : Telling) (k : PlainKernel) (units : ℕ) (bytes : List ℕ) → NoRunOver k units → (trace_report MAX_ROWS (run_format tells k) k units bytes).status ≢ status.Over
trace_never tells k units bytes never = limited_never MAX_ROWS tells k units bytes never

ticked_never : (threads : ℕ) (k : PlainKernel) (units : ℕ) → NoRunOver k units → (ticked_report threads k units).status ≢ status.Over
unfolding ticked_report
ticked_never threads k units never =
    let ticks = workload_ticks k units in
    ticks_never threads units ticks (last_outcome ticks) (last_never ticks (never (replicate WORKLOAD_TICKS (zero_row k.shape))))

-- ---- reports

unless_never : (o : Option PlaceFault) (r : Report) → r.status ≢ status.Over → (unless_misplaced o r).status ≢ status.Over
unless_never None r h = h
unless_never (Some why) r h = λ e. cc

with_never : (o : Option ℕ) (f : ℕ → Report) → ((units : ℕ) → o ≡ Some units → (f units).status ≢ status.Over) → (with_budget o f).status ≢ status.Over
with_never None f h = λ e. cc
with_never (Some units) f h = h units refl

is_never : (r q : Report) → r ≡ q → q.status ≢ status.Over → r.status ≢ status.Over
is_never r q e h = λ o. h (sym (ap (λ (x : Report). x.status) e) ∙ o)

threads_never : (k : PlainKernel) (placing : PlainPlacing) (r : Report) → ThreadsReport k placing r → r.status ≢ status.Over
threads_never k placing r (Of_misplaced why m e) = is_never r _ e (λ o. cc)
threads_never k placing r (Of_placed p m is e) = is_never r _ e (λ o. cc)

-- each budget that a kernel may run with is enough
abbrev Suffices : PlainKernel → Budget → Type 0
Suffices k b = (units : ℕ) → budget_for k b ≡ Some units → NoRunOver k units

run_never : (tells : Telling) (k : PlainKernel) (running : PlainRunning) (bytes : List ℕ) → Suffices k running.budget → (run_report tells k running bytes).status ≢ status.Over
run_never tells k running bytes enough =
    with_never (budget_for k running.budget) (λ units. unless_misplaced (misplacing k running.placing) (trace_report MAX_ROWS (run_format tells k) k units bytes))
    (λ units e. unless_never (misplacing k running.placing) (trace_report MAX_ROWS (run_format tells k) k units bytes) (trace_never tells k units bytes (enough units e)))

accepted_never : (command : PlainCommand) (trace : Option (List ℕ)) (c : Counts) (k : PlainKernel) (r : Report) → ((running : PlainRunning) → running_in command ≡ Some running → Suffices k running.budget) →
    AcceptedReport command trace c k r → r.status ≢ status.Over
accepted_never (Run running) trace c k r enough x = is_never r _ x.2 (run_never telling.Report k running x.0 (enough running refl))
accepted_never (Wave running) trace c k r enough x = is_never r _ x.2 (run_never telling.Wave k running x.0 (enough running refl))
accepted_never Check trace c k r enough x = is_never r _ x (λ o. cc)
accepted_never (Threads placing) trace c k r enough x = threads_never k placing r x
accepted_never (Explain b order) trace c k r enough x =
    is_never r _ x.2 (with_never (budget_for k b) (λ units. trace_report MAX_ROWS (run_format telling.Report k) k units x.0) (λ units e. trace_never telling.Report k units x.0 (enough _ refl units e)))
accepted_never Code trace c k r enough x = is_never r _ x.lists (λ o. cc)

workload_never : (threads : ℕ) (running : PlainRunning) (k : PlainKernel) → Suffices k running.budget → (workload_report threads running k).status ≢ status.Over
workload_never threads running k enough =
    with_never (budget_for k running.budget) (λ units. unless_misplaced (misplacing k running.placing) (ticked_report threads k units))
    (λ units e. unless_never (misplacing k running.placing) (ticked_report threads k units) (ticked_never threads k units (enough units e)))

-- ---- many traces

worse_never : (first : Bool) (s t : Status) → s ≢ status.Over → t ≢ status.Over → (if first then s else t) ≢ status.Over
worse_never true s t one other = one
worse_never false s t one other = other

module _ (k : PlainKernel) (units : ℕ) (never : NoRunOver k units) where
  farmed_never : (bytes : List ℕ) → (farmed k units bytes).status ≢ status.Over
  farmed_never bytes = pick (nat_lt MAX_TEXT_BYTES (length bytes))
    where
      pick : (long : Bool) → (if long then too_long else trace_report FARM_ROWS (run_format telling.Report k) k units bytes).status ≢ status.Over
      pick true = λ e. cc
      pick false = limited_never FARM_ROWS telling.Report k units bytes never

  worst_never : (texts : List (List ℕ)) → worst (map (λ (r : Report). r.status) (map (farmed k units) texts)) ≢ status.Over
  worst_never [] = λ e. cc
  worst_never (t ∷ ts) =
      worse_never (nat_le (status_number (worst (map (λ (r : Report). r.status) (map (farmed k units) ts)))) (status_number (farmed k units t).status))
      (farmed k units t).status (worst (map (λ (r : Report). r.status) (map (farmed k units) ts))) (farmed_never t) (worst_never ts)

farm_never : (content : List ℕ → Option (List ℕ)) (traces : List (List ℕ)) (b : Budget) (c : Counts) (k : PlainKernel) (r : Report) → Suffices k b → FarmedReport content traces b c k r → r.status ≢ status.Over
farm_never content traces b c k r enough x =
    is_never r _ x.2 (with_never (budget_for k b) (λ units. farm_report k units traces x.0) (λ units e. worst_never k units (enough units e) x.0))

-- a replay
replay_never : (k : PlainKernel) (b : Budget) (lines bytes : List ℕ) (r : Report) → Suffices k b → ReplayReport k b lines bytes r → r.status ≢ status.Over
replay_never k b lines bytes r fits (Of_no_bound none e) = is_never r _ e (λ o. cc)
replay_never k b lines bytes r fits (Of_long_log units some long e) = is_never r _ e (λ o. cc)
replay_never k b lines bytes r fits (Of_replayed units some short x) = by x
  where
    by : IsReplay MAX_ROWS k units lines bytes r → r.status ≢ status.Over
    by (Of_no_log n bad e) = is_never r _ e (λ o. cc)
    by (Of_thread log t m is fails e) = is_never r _ e (λ o. cc)
    by (Of_tick a before later turn are runs not e) = is_never r _ e (λ o. cc)
    by (Of_left a root left e) = is_never r _ e (λ o. cc)
    by (Of_same log is same e) = is_never r _ e (trace_never telling.Report k units bytes (fits units some))

-- the log of a run
log_never : (k : PlainKernel) (running : PlainRunning) (bytes : List ℕ) (r : Report) → Suffices k running.budget → LogReport k running bytes r → r.status ≢ status.Over
log_never k running bytes r fits (Of_boundless none e) = is_never r _ e (λ o. cc)
log_never k running bytes r fits (Of_misplaced_run units why some bad e) = is_never r _ e (λ o. cc)
log_never k running bytes r fits (Of_logged units some fine x) = by x.tells
  where
    by : IsLogReport k.shape x.log (run_status MAX_ROWS k units bytes) r → r.status ≢ status.Over
    by (Of_kept few e) = is_never r _ e (trace_never telling.Report k units bytes (fits units some))
    by (Of_full many e) = is_never r _ e (λ o. cc)

text_never : (text : List ℕ) (Says : Counts → PlainKernel → Report → Type 0) (r : Report) → ((c : Counts) (k : PlainKernel) → Judged text (Accepts c k) → Says c k r → r.status ≢ status.Over) → TextReport text Says r → r.status ≢ status.Over
text_never text Says r never (Of_refusal why j e) = is_never r _ e (λ o. cc)
text_never text Says r never (Of_accepted c k j x) = never c k j x

-- ---- words

-- no run of the kernel of an accepted text, folded or not, is over with a budget of at least its worst case
abbrev pub KernelsNeverOver : Type 0
KernelsNeverOver =
    (text : List ℕ) (c : Counts) (k : PlainKernel) (fold : Bool) → Judged text (Accepts c k) → (units : ℕ) → worst_case (kernel_for fold k) ≤ units → NoRunOver (kernel_for fold k) units

pub kernels_never_over : AcceptedTextsAreFormed → AcceptedTextsArePaced → AcceptedTextsAreNeverOver → FoldingKeepsForm → FoldingKeepsPaced → RunsNeverOver → KernelsNeverOver
kernels_never_over formed paced never form pace runs text c k false j units fits = never text c k j units fits
kernels_never_over formed paced never form pace runs text c k true j units fits =
    runs (folded_kernel k) (form k (formed text c k j)) (pace k (paced text c k j)) units fits

module _ (never : KernelsNeverOver) where
  suffices : (text : List ℕ) (c : Counts) (k : PlainKernel) (fold : Bool) (b : Budget) → Judged text (Accepts c k) → Covers (kernel_for fold k) b → Suffices (kernel_for fold k) b
  suffices text c k fold b j covers units e = never text c k fold j units (covers units e)

  pub covered_never_over : CoveredNeverOver
  covered_never_over words content trace r covers (Of_usage n e) = is_never r _ e (λ o. cc)
  covered_never_over words content trace r covers (Of_text name command fold text n t x) =
      text_never text (CommandReport command fold trace) r
      (λ c k j y. accepted_never command trace c (kernel_for fold k) r (λ running is. suffices text c k fold running.budget j (covers.text name command fold text running c k n t is j)) y) x
  covered_never_over words content trace r covers (Of_dump name n x) = is_never r _ x.2 (dump_never x.0)
  covered_never_over words content trace r covers (Of_workload threads running n x) =
      text_never (workload_text threads) (λ c k q. q ≡ workload_report threads running k) r
      (λ c k j y. is_never r _ y (workload_never threads running k (suffices (workload_text threads) c k false running.budget j (covers.workload threads running c k n j)))) x
  covered_never_over words content trace r covers (Of_farm name traces b text n t x) =
      text_never text (FarmedReport content traces b) r (λ c k j y. farm_never content traces b c k r (suffices text c k false b j (covers.farm name traces b text c k n t j)) y) x
  covered_never_over words content trace r covers (Of_replay name log b text n t x) =
      text_never text (AcceptedReplay content log b trace) r
      (λ c k j y. replay_never k b y.0 y.1 r (suffices text c k false b j (covers.replay name log b text c k n t j)) y.4) x
  covered_never_over words content trace r covers (Of_log name running text n t x) =
      text_never text (AcceptedLog running trace) r
      (λ c k j y. log_never k running y.0 r (suffices text c k false running.budget j (covers.log name running text c k n t j)) y.2) x

-- ---- the bound

bound_is : (n m : ℕ) (over : Bool) → cond over None (Some n) ≡ Some m → n ≤ m
bound_is n m true e = absurd (let g : None ≡ Some m = e in cc)
bound_is n m false e = let same : n ≡ m = some_same n m e in omega arith

pub bound_covers : BoundCovers
bound_covers k units e = bound_is (worst_case k) units (nat_lt MAX_BUDGET (worst_case k)) e

covers_as : (k : PlainKernel) (b : Budget) → b ≡ budget.Bound → Covers k b
covers_as k b e = subst (Covers k) (sym e) (bound_covers k)

-- what two requests of the same words have in common
bound_of_text : (words : List (List ℕ)) → AskForBound words → (name : List ℕ) (command : PlainCommand) (fold : Bool) (running : PlainRunning) → request_of words ≡ Some (OnText name command fold) → running_in command ≡ Some running →
    running.budget ≡ budget.Bound
bound_of_text words (Of_run other also folds more m is b) name command fold running n e =
    let same : also ≡ command = command_same other name also command folds fold (sym m ∙ n) in
    ap (λ (x : PlainRunning). x.budget) (some_same running more (sym e ∙ ap running_in (sym same) ∙ is)) ∙ b
bound_of_text words (Of_gen threads more m b) name command fold running n e = absurd (never_text name command fold threads more (sym n ∙ m))
bound_of_text words (Of_log_run other more m b) name command fold running n e = absurd (text_no_log name command fold other more (sym n ∙ m))
bound_of_text words (Of_replay_run other log b m e) name command fold running n is = absurd (text_no_replay name command fold other log b (sym n ∙ m))
bound_of_text words (Of_traces other traces also m b) name command fold running n e = absurd (never_farm name command fold other traces also (sym n ∙ m))

bound_of_workload : (words : List (List ℕ)) → AskForBound words → (threads : ℕ) (running : PlainRunning) → request_of words ≡ Some (OnWorkload threads running) → running.budget ≡ budget.Bound
bound_of_workload words (Of_run name command fold more m is b) threads running n = absurd (never_text name command fold threads running (sym m ∙ n))
bound_of_workload words (Of_gen others more m b) threads running n = ap (λ (x : PlainRunning). x.budget) (running_same threads others running more (sym n ∙ m)) ∙ b
bound_of_workload words (Of_log_run other more m b) threads running n = absurd (workload_no_log threads running other more (sym n ∙ m))
bound_of_workload words (Of_replay_run other log b m e) threads running n = absurd (workload_no_replay threads running other log b (sym n ∙ m))
bound_of_workload words (Of_traces other traces also m b) threads running n = absurd (never_workload threads running other traces also (sym n ∙ m))

bound_of_farm : (words : List (List ℕ)) → AskForBound words → (name : List ℕ) (traces : List (List ℕ)) (b : Budget) → request_of words ≡ Some (OnTraces name traces b) → b ≡ budget.Bound
bound_of_farm words (Of_run other command fold more m is e) name traces b n = absurd (never_farm other command fold name traces b (sym m ∙ n))
bound_of_farm words (Of_gen threads more m e) name traces b n = absurd (never_workload threads more name traces b (sym m ∙ n))
bound_of_farm words (Of_log_run other more m e) name traces b n = absurd (farm_no_log name traces b other more (sym n ∙ m))
bound_of_farm words (Of_replay_run other log also m e) name traces b n = absurd (farm_no_replay name traces b other log also (sym n ∙ m))
bound_of_farm words (Of_traces other others also m e) name traces b n = farm_budget_same name other traces others b also (sym n ∙ m) ∙ e

bound_of_log : (words : List (List ℕ)) → AskForBound words → (name : List ℕ) (running : PlainRunning) → request_of words ≡ Some (OnLog name running) → running.budget ≡ budget.Bound
bound_of_log words (Of_run other command fold more m is b) name running n = absurd (text_no_log other command fold name running (sym m ∙ n))
bound_of_log words (Of_gen threads more m e) name running n = absurd (workload_no_log threads more name running (sym m ∙ n))
bound_of_log words (Of_traces other others also m e) name running n = absurd (farm_no_log other others also name running (sym m ∙ n))
bound_of_log words (Of_replay_run other log b m e) name running n = absurd (log_no_replay name running other log b (sym n ∙ m))
bound_of_log words (Of_log_run other more m b) name running n = ap (λ (x : PlainRunning). x.budget) (log_running_same name other running more (sym n ∙ m)) ∙ b

bound_of_replay : (words : List (List ℕ)) → AskForBound words → (name log : List ℕ) (b : Budget) → request_of words ≡ Some (OnReplay name log b) → b ≡ budget.Bound
bound_of_replay words (Of_run other command fold more m is e) name log b n = absurd (text_no_replay other command fold name log b (sym m ∙ n))
bound_of_replay words (Of_gen threads more m e) name log b n = absurd (workload_no_replay threads more name log b (sym m ∙ n))
bound_of_replay words (Of_traces other others also m e) name log b n = absurd (farm_no_replay other others also name log b (sym m ∙ n))
bound_of_replay words (Of_log_run other running m e) name log b n = absurd (log_no_replay other running name log b (sym m ∙ n))
bound_of_replay words (Of_replay_run other more also m e) name log b n = replay_budget_same name other log more b also (sym n ∙ m) ∙ e

pub bound_never_over : KernelsNeverOver → BoundNeverOver
bound_never_over never words content trace r asks =
    covered_never_over never words content trace r (record {
      text = λ name command fold text running c k n t is j. covers_as (kernel_for fold k) running.budget (bound_of_text words asks name command fold running n is);
      workload = λ threads running c k n j. covers_as k running.budget (bound_of_workload words asks threads running n);
      farm = λ name traces b text c k n t j. covers_as k b (bound_of_farm words asks name traces b n);
      replay = λ name log b text c k n t j. covers_as k b (bound_of_replay words asks name log b n);
      log = λ name running text c k n t j. covers_as k running.budget (bound_of_log words asks name running n);
    })
