-- Words have one report.
use Rattle.std.proofs.Common.{arith, ◌<◌, ◌≤◌, ◌^◌, length, ◌≡◌, ◌⊎◌, inl, inr, ℕ, Bool, true, false, List, [], ◌∷◌, map, Option, Some, None, refl, sym, ap, ap₂, subst, ◌∙◌, ⊎_elim}
use Rattle.std.proofs.lemmas.Bool.{cases_lt}
use Rattle.forec_kernel.specs.Shapes.{PlainKernel}
use Rattle.core_alloc.specs.declared.fault.PlaceFault.{PlaceFault}
use Rattle.command_words.specs.Requests.{PlainPlacing, PlainRunning, PlainCommand, Run, Wave, Check, Threads, Code, Explain, PlainRequest, OnText, OnWorkload, OnDump, OnLog, OnReplay, request_of, OnTraces}
use Rattle.thread_places.specs.Laws.{OnePlacement, SomePlacement}
use Rattle.forec_engine.specs.Commands.{IsListing, ThreadsReport, Of_misplaced, Of_placed, AcceptedReport, CommandReport, Of_refusal, Of_accepted, TextReport, WorkloadReport, Of_usage, Of_text, Of_workload, Of_dump, IsReport, TellsTrace, IsKnown, usage, refused, counts_report, listing_report, threads_listed, run_report, explain_report, Of_farm, Of_log, Of_replay}
use Rattle.forec_engine.specs.Dumps.{DumpReport, dump_printed}
use Rattle.text_verdict.specs.Judging.{Verdict, Refuses, Accepts, Judged}
use Rattle.text_verdict.specs.Laws.{OneVerdict, SomeVerdict, AcceptedTextsAreFormed}
use Rattle.forec_engine.specs.Laws.{OneReport, ListOneKernel, AlikeReports, SomeReport}
use Rattle.text_verdict.specs.declared.counts.Counts.{Counts}
use Rattle.text_verdict.specs.declared.refusal.Refusal.{Refusal}
use Rattle.forec_engine.specs.Folds.{kernel_for}
use Rattle.command_words.specs.declared.request.Budget.{Budget}
use Rattle.forec_engine.specs.Farms.{FarmedReport, farm_report, too_long}
use Rattle.forec_engine.proofs.SomeReplay.{some_replay}
use Rattle.fold_laws.specs.Laws.{FoldingKeepsForm}
use Rattle.code_gen.specs.Blocks.{kernel_code}
use Rattle.code_gen.proofs.Valid.{kernel_code_valid}
use Rattle.code_gen.proofs.Stands.{kernel_code_stands}
use Rattle.forec_engine.specs.Budgets.{budget_for, boundless, with_budget}
use Rattle.forec_engine.specs.Logs.{LogReport, Of_boundless, Of_misplaced_run, Of_logged, AcceptedLog}
use Rattle.log_runs.specs.Laws.{RunHasOneLog, RunHasOneReplay}
use Rattle.log_runs.specs.ReplayRuns.{IsReplay}
use Rattle.log_runs.specs.declared.replaying.TheConstants.{MAX_LOG_BYTES}
use Rattle.forec_engine.specs.Replays.{ReplayReport, Of_no_bound, Of_long_log, Of_replayed, AcceptedReplay}
use Rattle.log_runs.specs.RunLogs.{IsRunLog, Of_kept, Of_full, log_full, logged_report, run_status}
use Rattle.log_runs.specs.declared.logging.TheConstants.{LOG_WORDS}
use Rattle.log_runs.proofs.Pausing.{trace_pauses}
use Rattle.log_laws.specs.Laws.{EachRunHasALog}
use Rattle.exchange_log.specs.Posted.{log_words}
use Rattle.forec_kernel.specs.WellFormed.{WellFormed}
use Rattle.forec_base.specs.declared.limits.TheConstants.{MAX_ROWS}
use Rattle.forec_engine.specs.Placing.{misplaced, misplacing}
use Rattle.trace_ticks.specs.Report.{Report, trace_turns}
use Rattle.trace_ticks.specs.declared.format.Telling.{Telling}
use Rattle.trace_ticks.specs.declared.format.Telling.TheVariants as telling
use Rattle.forec_engine.specs.Placing.{workload_report}

pub some_same : {A : Type 0} (x y : A) → Some x ≡ Some y → x ≡ y
some_same x y e = cc

refused_same : (why other : Refusal) → Refuses why ≡ Refuses other → why ≡ other
refused_same why other e = cc

counts_same : (c d : Counts) (k l : PlainKernel) → Accepts c k ≡ Accepts d l → c ≡ d
counts_same c d k l e = cc

pub kernel_same : (c d : Counts) (k l : PlainKernel) → Accepts c k ≡ Accepts d l → k ≡ l
kernel_same c d k l e = cc

-- and so the kernels that a command is done with
accepts_for : (fold : Bool) (c d : Counts) (k l : PlainKernel) → Accepts c k ≡ Accepts d l → Accepts c (kernel_for fold k) ≡ Accepts d (kernel_for fold l)
accepts_for fold c d k l e = ap (λ x. Accepts x (kernel_for fold k)) (counts_same c d k l e) ∙ ap (λ x. Accepts d (kernel_for fold x)) (kernel_same c d k l e)

-- what is accepted isn't refused
pub never_both : (why : Refusal) (c : Counts) (k : PlainKernel) → Refuses why ≡ Accepts c k → ⊥
never_both why c k e = cc

-- ---- one report of an accepted text

never_placed : (why : PlaceFault) (o : Option PlaceFault) → o ≡ Some why → o ≡ None → ⊥
never_placed why o e f = let h : Some why ≡ None = sym e ∙ f in cc

-- two lists of a kernel's threads
two_threads : OnePlacement → (k : PlainKernel) (placing : PlainPlacing) (r q : Report) → ThreadsReport k placing r → ThreadsReport k placing q → r ≡ q
two_threads one k placing r q (Of_misplaced why m e) (Of_misplaced other n f) = e ∙ ap misplaced (some_same why other (sym m ∙ n)) ∙ sym f
two_threads one k placing r q (Of_misplaced why m e) (Of_placed p n is f) = absurd (never_placed why (misplacing k placing) m n)
two_threads one k placing r q (Of_placed p m is e) (Of_misplaced why n f) = absurd (never_placed why (misplacing k placing) n m)
two_threads one k placing r q (Of_placed p m is e) (Of_placed o n also f) = e ∙ ap (λ x. threads_listed k x.places) (one k placing p o is also) ∙ sym f

-- what is told of two runs
two_runs : (tells : Telling) (running : PlainRunning) (c d : Counts) (k l : PlainKernel) (trace : Option (List ℕ)) (r q : Report) → Accepts c k ≡ Accepts d l →
    (bytes : List ℕ) × (trace ≡ Some bytes) × (r ≡ run_report tells k running bytes) → (bytes : List ℕ) × (trace ≡ Some bytes) × (q ≡ run_report tells l running bytes) → r ≡ q
two_runs tells running c d k l trace r q e x y =
    x.2 ∙ ap (λ m. run_report tells m running x.0) (kernel_same c d k l e) ∙ ap (run_report tells l running) (some_same x.0 y.0 (sym x.1 ∙ y.1)) ∙ sym y.2

-- what a command other than `code` says of an accepted text
one_accepted : OnePlacement → (command : PlainCommand) (c d : Counts) (k l : PlainKernel) (trace : Option (List ℕ)) (r q : Report) → (command ≡ Code → ⊥) → Accepts c k ≡ Accepts d l →
    AcceptedReport command trace c k r → AcceptedReport command trace d l q → r ≡ q
one_accepted one (Run running) c d k l trace r q other e x y =
    two_runs telling.Report running c d k l trace r q e x y
one_accepted one (Wave running) c d k l trace r q other e x y = two_runs telling.Wave running c d k l trace r q e x y
one_accepted one Check c d k l trace r q other e x y = x ∙ ap counts_report (counts_same c d k l e) ∙ sym y
one_accepted one (Threads placing) c d k l trace r q other e x y = two_threads one l placing r q (subst (λ m. ThreadsReport m placing r) (kernel_same c d k l e) x) y
one_accepted one (Explain budget order) c d k l trace r q other e x y =
    x.2 ∙ ap (λ m. explain_report m budget x.0) (kernel_same c d k l e) ∙ ap (explain_report l budget) (some_same x.0 y.0 (sym x.1 ∙ y.1)) ∙ sym y.2
one_accepted one Code c d k l trace r q other e x y = absurd (other refl)

-- what any command says of it
alike_accepted : OnePlacement → (command : PlainCommand) (c d : Counts) (k l : PlainKernel) (trace : Option (List ℕ)) (r q : Report) → Accepts c k ≡ Accepts d l →
    AcceptedReport command trace c k r → AcceptedReport command trace d l q → (r ≡ q) ⊎ ListOneKernel r q
alike_accepted one (Run running) c d k l trace r q e x y = inl (one_accepted one (Run running) c d k l trace r q (λ n. cc) e x y)
alike_accepted one (Wave running) c d k l trace r q e x y = inl (one_accepted one (Wave running) c d k l trace r q (λ n. cc) e x y)
alike_accepted one (Explain budget order) c d k l trace r q e x y = inl (one_accepted one (Explain budget order) c d k l trace r q (λ n. cc) e x y)
alike_accepted one Check c d k l trace r q e x y = inl (one_accepted one Check c d k l trace r q (λ n. cc) e x y)
alike_accepted one (Threads placing) c d k l trace r q e x y = inl (one_accepted one (Threads placing) c d k l trace r q (λ n. cc) e x y)
alike_accepted one Code c d k l trace r q e x y = inr (record { kernel = l; first = subst (λ m. IsListing m r) (kernel_same c d k l e) x; second = y })

-- ---- one report of words

-- what is said of two reports of a text holds of its two verdicts
module _ (one : OneVerdict) (Says : Counts → PlainKernel → Report → Type 0) (P : Report → Report → Type 0) (same : (r q : Report) → r ≡ q → P r q)
    (both : (c d : Counts) (k l : PlainKernel) (r q : Report) → Accepts c k ≡ Accepts d l → Says c k r → Says d l q → P r q) where
  two_of_text : (text : List ℕ) (r q : Report) → TextReport text Says r → TextReport text Says q → P r q
  two_of_text text r q (Of_refusal why j e) (Of_refusal other i f) = same r q (e ∙ ap refused (refused_same why other (one text _ _ j i)) ∙ sym f)
  two_of_text text r q (Of_refusal why j e) (Of_accepted c k i f) = absurd (never_both why c k (one text _ _ j i))
  two_of_text text r q (Of_accepted c k j e) (Of_refusal why i f) = absurd (never_both why c k (one text _ _ i j))
  two_of_text text r q (Of_accepted c k j e) (Of_accepted d l i f) = both c d k l r q (one text _ _ j i) e f

workload_both : (threads : ℕ) (running : PlainRunning) (c d : Counts) (k l : PlainKernel) (r q : Report) → Accepts c k ≡ Accepts d l →
    r ≡ workload_report threads running k → q ≡ workload_report threads running l → r ≡ q
workload_both threads running c d k l r q e x y = x ∙ ap (workload_report threads running) (kernel_same c d k l e) ∙ sym y

pub name_same : (n m : List ℕ) (c d : PlainCommand) (a b : Bool) → Some (OnText n c a) ≡ Some (OnText m d b) → n ≡ m
name_same n m c d a b e = cc

pub command_same : (n m : List ℕ) (c d : PlainCommand) (a b : Bool) → Some (OnText n c a) ≡ Some (OnText m d b) → c ≡ d
command_same n m c d a b e = cc

pub fold_same : (n m : List ℕ) (c d : PlainCommand) (a b : Bool) → Some (OnText n c a) ≡ Some (OnText m d b) → a ≡ b
fold_same n m c d a b e = cc

pub threads_same : (n m : ℕ) (c d : PlainRunning) → Some (OnWorkload n c) ≡ Some (OnWorkload m d) → n ≡ m
threads_same n m c d e = cc

pub running_same : (n m : ℕ) (c d : PlainRunning) → Some (OnWorkload n c) ≡ Some (OnWorkload m d) → c ≡ d
running_same n m c d e = cc

farm_name_same : (n m : List ℕ) (ts us : List (List ℕ)) (a b : Budget) → Some (OnTraces n ts a) ≡ Some (OnTraces m us b) → n ≡ m
farm_name_same n m ts us a b e = cc

farm_traces_same : (n m : List ℕ) (ts us : List (List ℕ)) (a b : Budget) → Some (OnTraces n ts a) ≡ Some (OnTraces m us b) → ts ≡ us
farm_traces_same n m ts us a b e = cc

pub farm_budget_same : (n m : List ℕ) (ts us : List (List ℕ)) (a b : Budget) → Some (OnTraces n ts a) ≡ Some (OnTraces m us b) → a ≡ b
farm_budget_same n m ts us a b e = cc

pub never_farm : (n : List ℕ) (c : PlainCommand) (a : Bool) (m : List ℕ) (ts : List (List ℕ)) (b : Budget) → Some (OnText n c a) ≡ Some (OnTraces m ts b) → ⊥
never_farm n c a m ts b e = cc

pub never_workload : (n : ℕ) (r : PlainRunning) (m : List ℕ) (ts : List (List ℕ)) (b : Budget) → Some (OnWorkload n r) ≡ Some (OnTraces m ts b) → ⊥
never_workload n r m ts b e = cc

pub farm_no_dump : (n : List ℕ) (ts : List (List ℕ)) (b : Budget) (m : List ℕ) → Some (OnTraces n ts b) ≡ Some (OnDump m) → ⊥
farm_no_dump n ts b m e = cc

log_name_same : (n m : List ℕ) (r q : PlainRunning) → Some (OnLog n r) ≡ Some (OnLog m q) → n ≡ m
log_name_same n m r q e = cc

pub log_running_same : (n m : List ℕ) (r q : PlainRunning) → Some (OnLog n r) ≡ Some (OnLog m q) → r ≡ q
log_running_same n m r q e = cc

pub text_no_log : (n : List ℕ) (c : PlainCommand) (a : Bool) (m : List ℕ) (r : PlainRunning) → Some (OnText n c a) ≡ Some (OnLog m r) → ⊥
text_no_log n c a m r e = cc

pub workload_no_log : (n : ℕ) (c : PlainRunning) (m : List ℕ) (r : PlainRunning) → Some (OnWorkload n c) ≡ Some (OnLog m r) → ⊥
workload_no_log n c m r e = cc

pub farm_no_log : (n : List ℕ) (ts : List (List ℕ)) (b : Budget) (m : List ℕ) (r : PlainRunning) → Some (OnTraces n ts b) ≡ Some (OnLog m r) → ⊥
farm_no_log n ts b m r e = cc

log_no_dump : (n : List ℕ) (r : PlainRunning) (m : List ℕ) → Some (OnLog n r) ≡ Some (OnDump m) → ⊥
log_no_dump n r m e = cc

pub replay_name_same : (n m l o : List ℕ) (a b : Budget) → Some (OnReplay n l a) ≡ Some (OnReplay m o b) → n ≡ m
replay_name_same n m l o a b e = cc

pub replay_log_same : (n m l o : List ℕ) (a b : Budget) → Some (OnReplay n l a) ≡ Some (OnReplay m o b) → l ≡ o
replay_log_same n m l o a b e = cc

pub replay_budget_same : (n m l o : List ℕ) (a b : Budget) → Some (OnReplay n l a) ≡ Some (OnReplay m o b) → a ≡ b
replay_budget_same n m l o a b e = cc

pub text_no_replay : (n : List ℕ) (c : PlainCommand) (a : Bool) (m l : List ℕ) (b : Budget) → Some (OnText n c a) ≡ Some (OnReplay m l b) → ⊥
text_no_replay n c a m l b e = cc

pub workload_no_replay : (n : ℕ) (c : PlainRunning) (m l : List ℕ) (b : Budget) → Some (OnWorkload n c) ≡ Some (OnReplay m l b) → ⊥
workload_no_replay n c m l b e = cc

pub farm_no_replay : (n : List ℕ) (ts : List (List ℕ)) (a : Budget) (m l : List ℕ) (b : Budget) → Some (OnTraces n ts a) ≡ Some (OnReplay m l b) → ⊥
farm_no_replay n ts a m l b e = cc

pub log_no_replay : (n : List ℕ) (r : PlainRunning) (m l : List ℕ) (b : Budget) → Some (OnLog n r) ≡ Some (OnReplay m l b) → ⊥
log_no_replay n r m l b e = cc

pub replay_no_dump : (n l : List ℕ) (b : Budget) (m : List ℕ) → Some (OnReplay n l b) ≡ Some (OnDump m) → ⊥
replay_no_dump n l b m e = cc

-- names have one list of texts
one_texts : (texts more : List (List ℕ)) → map Some texts ≡ map Some more → texts ≡ more
one_texts [] [] e = refl
one_texts [] (u ∷ us) e = absurd (let bad : [] ≡ Some u ∷ map Some us = e in cc)
one_texts (t ∷ ts) [] e = absurd (let bad : Some t ∷ map Some ts ≡ [] = e in cc)
one_texts (t ∷ ts) (u ∷ us) e =
    let both : Some t ∷ map Some ts ≡ Some u ∷ map Some us = e in
    let first : t ≡ u = cc in
    let rest : map Some ts ≡ map Some us = cc in
    ap₂ ◌∷◌ first (one_texts ts us rest)

-- what two runs over traces say of one kernel
farm_both : (content : List ℕ → Option (List ℕ)) (traces : List (List ℕ)) (b : Budget) (c d : Counts) (k l : PlainKernel) (r q : Report) → Accepts c k ≡ Accepts d l →
    FarmedReport content traces b c k r → FarmedReport content traces b d l q → r ≡ q
farm_both content traces b c d k l r q e x y =
    let texts : x.0 ≡ y.0 = one_texts x.0 y.0 (sym x.1 ∙ y.1) in
    x.2 ∙ ap (λ m. with_budget (budget_for m b) (λ units. farm_report m units traces x.0)) (kernel_same c d k l e)
    ∙ ap (λ ts. with_budget (budget_for l b) (λ units. farm_report l units traces ts)) texts ∙ sym y.2

-- what two logs of one kernel's run say
pub units_same : (o : Option ℕ) (m n : ℕ) → o ≡ Some m → o ≡ Some n → m ≡ n
units_same o m n a b = let both : Some m ≡ Some n = sym a ∙ b in cc

pub no_units : (o : Option ℕ) (n : ℕ) → o ≡ None → o ≡ Some n → ⊥
no_units o n a b = let both : None ≡ Some n = sym a ∙ b in cc

two_logs : RunHasOneLog → (k : PlainKernel) → WellFormed k → (running : PlainRunning) (bytes : List ℕ) (r q : Report) → LogReport k running bytes r → LogReport k running bytes q → r ≡ q
two_logs one k formed running bytes r q (Of_boundless b e) (Of_boundless c f) = e ∙ sym f
two_logs one k formed running bytes r q (Of_boundless b e) (Of_misplaced_run n why c m f) = absurd (no_units (budget_for k running.budget) n b c)
two_logs one k formed running bytes r q (Of_boundless b e) (Of_logged n c m f) = absurd (no_units (budget_for k running.budget) n b c)
two_logs one k formed running bytes r q (Of_misplaced_run n why b m e) (Of_boundless c f) = absurd (no_units (budget_for k running.budget) n c b)
two_logs one k formed running bytes r q (Of_misplaced_run n why b m e) (Of_misplaced_run o other c l f) = e ∙ ap misplaced (some_same why other (sym m ∙ l)) ∙ sym f
two_logs one k formed running bytes r q (Of_misplaced_run n why b m e) (Of_logged o c l f) = absurd (never_placed why (misplacing k running.placing) m l)
two_logs one k formed running bytes r q (Of_logged n b m e) (Of_boundless c f) = absurd (no_units (budget_for k running.budget) n c b)
two_logs one k formed running bytes r q (Of_logged n b m e) (Of_misplaced_run o why c l f) = absurd (never_placed why (misplacing k running.placing) l m)
two_logs one k formed running bytes r q (Of_logged n b m e) (Of_logged o c l f) =
    one MAX_ROWS k formed n bytes r q e (subst (λ u. IsRunLog MAX_ROWS k u bytes q) (units_same (budget_for k running.budget) o n c b) f)

-- and what two replays say of one log and one trace
pub too_many : (n : ℕ) → MAX_LOG_BYTES < n → n ≤ MAX_LOG_BYTES → ⊥
too_many n a b = omega (arith, a, b)

-- so its bytes are counted
pub log_short : (n : ℕ) → n ≤ MAX_LOG_BYTES → n < 2 ^ 64
log_short n a = omega (arith, a)

two_replays : RunHasOneReplay → (k : PlainKernel) → WellFormed k → (b : Budget) (lines bytes : List ℕ) (r q : Report) → ReplayReport k b lines bytes r → ReplayReport k b lines bytes q → r ≡ q
two_replays one k formed b lines bytes r q (Of_no_bound n e) (Of_no_bound m f) = e ∙ sym f
two_replays one k formed b lines bytes r q (Of_no_bound n e) (Of_long_log u m l f) = absurd (no_units (budget_for k b) u n m)
two_replays one k formed b lines bytes r q (Of_no_bound n e) (Of_replayed u m l f) = absurd (no_units (budget_for k b) u n m)
two_replays one k formed b lines bytes r q (Of_long_log u n l e) (Of_no_bound m f) = absurd (no_units (budget_for k b) u m n)
two_replays one k formed b lines bytes r q (Of_long_log u n l e) (Of_long_log v m o f) = e ∙ sym f
two_replays one k formed b lines bytes r q (Of_long_log u n l e) (Of_replayed v m s f) = absurd (too_many (length lines) l s)
two_replays one k formed b lines bytes r q (Of_replayed u n s e) (Of_no_bound m f) = absurd (no_units (budget_for k b) u m n)
two_replays one k formed b lines bytes r q (Of_replayed u n s e) (Of_long_log v m l f) = absurd (too_many (length lines) l s)
two_replays one k formed b lines bytes r q (Of_replayed u n s e) (Of_replayed v m t f) =
    one MAX_ROWS k formed u lines bytes (log_short (length lines) s) r q e (subst (λ w. IsReplay MAX_ROWS k w lines bytes q) (units_same (budget_for k b) v u m n) f)

pub never_none : (x : PlainRequest) → None ≡ Some x → ⊥
never_none x e = cc

dump_same : (n m : List ℕ) → Some (OnDump n) ≡ Some (OnDump m) → n ≡ m
dump_same n m e = cc

pub text_no_dump : (n : List ℕ) (c : PlainCommand) (a : Bool) (m : List ℕ) → Some (OnText n c a) ≡ Some (OnDump m) → ⊥
text_no_dump n c a m e = cc

pub workload_no_dump : (n : ℕ) (c : PlainRunning) (m : List ℕ) → Some (OnWorkload n c) ≡ Some (OnDump m) → ⊥
workload_no_dump n c m e = cc

pub never_text : (n : List ℕ) (c : PlainCommand) (a : Bool) (m : ℕ) (d : PlainRunning) → Some (OnText n c a) ≡ Some (OnWorkload m d) → ⊥
never_text n c a m d e = cc

module _ (one : OneVerdict) (formed : AcceptedTextsAreFormed) (logs : RunHasOneLog) (replays : RunHasOneReplay) (words : List (List ℕ)) (content : List ℕ → Option (List ℕ)) (trace : Option (List ℕ)) (P : Report → Report → Type 0) (same : (r q : Report) → r ≡ q → P r q)
    (both : (name : List ℕ) (command : PlainCommand) (fold : Bool) → request_of words ≡ Some (OnText name command fold) → (c d : Counts) (k l : PlainKernel) (r q : Report) → Accepts c k ≡ Accepts d l →
    CommandReport command fold trace c k r → CommandReport command fold trace d l q → P r q) where
  two_of_names : (r q : Report) (name other : List ℕ) (command also : PlainCommand) (fold folds : Bool) (text more : List ℕ) → request_of words ≡ Some (OnText name command fold) →
      request_of words ≡ Some (OnText other also folds) → content name ≡ Some text → content other ≡ Some more → TextReport text (CommandReport command fold trace) r →
      TextReport more (CommandReport also folds trace) q → P r q
  two_of_names r q name other command also fold folds text more n m c d t u =
      let pairs : Some (OnText name command fold) ≡ Some (OnText other also folds) = sym n ∙ m in
      let texts : text ≡ more = some_same text more (sym c ∙ ap content (name_same name other command also fold folds pairs) ∙ d) in
      two_of_text one (CommandReport also folds trace) P same (both other also folds m) more r q
      (subst (λ x. TextReport x (CommandReport also folds trace) r) texts
      (subst (λ x. TextReport text (CommandReport also x trace) r) (fold_same name other command also fold folds pairs)
      (subst (λ x. TextReport text (CommandReport x fold trace) r) (command_same name other command also fold folds pairs) t))) u

  two_of_workloads : (r q : Report) (threads others : ℕ) (running also : PlainRunning) → Some (OnWorkload threads running) ≡ Some (OnWorkload others also) →
      WorkloadReport threads running r → WorkloadReport others also q → P r q
  two_of_workloads r q threads others running also e t u =
      two_of_text one (λ c k x. x ≡ workload_report others also k) P same (λ c d k l a b v x y. same a b (workload_both others also c d k l a b v x y)) _ r q
      (subst (λ n. WorkloadReport n also r) (threads_same threads others running also e) (subst (λ x. WorkloadReport threads x r) (running_same threads others running also e) t)) u

  two_of_farms : (r q : Report) (name other : List ℕ) (traces others : List (List ℕ)) (b also : Budget) (text more : List ℕ) → Some (OnTraces name traces b) ≡ Some (OnTraces other others also) →
      content name ≡ Some text → content other ≡ Some more → TextReport text (FarmedReport content traces b) r → TextReport more (FarmedReport content others also) q → P r q
  two_of_farms r q name other traces others b also text more e c d t u =
      let texts : text ≡ more = some_same text more (sym c ∙ ap content (farm_name_same name other traces others b also e) ∙ d) in
      two_of_text one (FarmedReport content others also) P same (λ c d k l x y v w z. same x y (farm_both content others also c d k l x y v w z)) more r q
      (subst (λ x. TextReport x (FarmedReport content others also) r) texts
      (subst (λ x. TextReport text (FarmedReport content x also) r) (farm_traces_same name other traces others b also e)
      (subst (λ x. TextReport text (FarmedReport content traces x) r) (farm_budget_same name other traces others b also e) t))) u

  -- of texts with one verdict each
  log_both : (text : List ℕ) (running : PlainRunning) (r q : Report) → TextReport text (AcceptedLog running trace) r → TextReport text (AcceptedLog running trace) q → r ≡ q
  log_both text running r q (Of_refusal why j e) (Of_refusal other i f) = e ∙ ap refused (refused_same why other (one text _ _ j i)) ∙ sym f
  log_both text running r q (Of_refusal why j e) (Of_accepted c k i f) = absurd (never_both why c k (one text _ _ j i))
  log_both text running r q (Of_accepted c k j e) (Of_refusal why i f) = absurd (never_both why c k (one text _ _ i j))
  log_both text running r q (Of_accepted c k j e) (Of_accepted d l i f) =
      let kernels = kernel_same c d k l (one text _ _ j i) in
      let bytes = some_same e.0 f.0 (sym e.1 ∙ f.1) in
      two_logs logs l (formed text d l i) running f.0 r q (subst (λ b. LogReport l running b r) bytes (subst (λ m. LogReport m running e.0 r) kernels e.2)) f.2

  two_of_logs : (r q : Report) (name other : List ℕ) (running also : PlainRunning) (text more : List ℕ) → Some (OnLog name running) ≡ Some (OnLog other also) →
      content name ≡ Some text → content other ≡ Some more → TextReport text (AcceptedLog running trace) r → TextReport more (AcceptedLog also trace) q → P r q
  two_of_logs r q name other running also text more e c d t u =
      let texts : text ≡ more = some_same text more (sym c ∙ ap content (log_name_same name other running also e) ∙ d) in
      same r q (log_both more also r q (subst (λ x. TextReport x (AcceptedLog also trace) r) texts (subst (λ x. TextReport text (AcceptedLog x trace) r) (log_running_same name other running also e) t)) u)

  replay_both : (text log : List ℕ) (b : Budget) (r q : Report) → TextReport text (AcceptedReplay content log b trace) r → TextReport text (AcceptedReplay content log b trace) q → r ≡ q
  replay_both text log b r q (Of_refusal why j e) (Of_refusal other i f) = e ∙ ap refused (refused_same why other (one text _ _ j i)) ∙ sym f
  replay_both text log b r q (Of_refusal why j e) (Of_accepted c k i f) = absurd (never_both why c k (one text _ _ j i))
  replay_both text log b r q (Of_accepted c k j e) (Of_refusal why i f) = absurd (never_both why c k (one text _ _ i j))
  replay_both text log b r q (Of_accepted c k j e) (Of_accepted d l i f) =
      let kernels = kernel_same c d k l (one text _ _ j i) in
      let lines = some_same e.0 f.0 (sym e.2 ∙ f.2) in
      let bytes = some_same e.1 f.1 (sym e.3 ∙ f.3) in
      two_replays replays l (formed text d l i) b f.0 f.1 r q
      (subst (λ x. ReplayReport l b f.0 x r) bytes (subst (λ x. ReplayReport l b x e.1 r) lines (subst (λ m. ReplayReport m b e.0 e.1 r) kernels e.4))) f.4

  two_of_replays : (r q : Report) (name other log logs : List ℕ) (b also : Budget) (text more : List ℕ) → Some (OnReplay name log b) ≡ Some (OnReplay other logs also) →
      content name ≡ Some text → content other ≡ Some more → TextReport text (AcceptedReplay content log b trace) r → TextReport more (AcceptedReplay content logs also trace) q → P r q
  two_of_replays r q name other log logs b also text more e c d t u =
      let texts : text ≡ more = some_same text more (sym c ∙ ap content (replay_name_same name other log logs b also e) ∙ d) in
      same r q (replay_both more logs also r q (subst (λ x. TextReport x (AcceptedReplay content logs also trace) r) texts
      (subst (λ x. TextReport text (AcceptedReplay content x also trace) r) (replay_log_same name other log logs b also e)
      (subst (λ x. TextReport text (AcceptedReplay content log x trace) r) (replay_budget_same name other log logs b also e) t))) u)

  two_dumps : (r q : Report) (name other : List ℕ) → Some (OnDump name) ≡ Some (OnDump other) → DumpReport content name r → DumpReport content other q → P r q
  two_dumps r q name other e x y =
      same r q (x.2 ∙ ap dump_printed (some_same x.0 y.0 (sym x.1 ∙ ap content (dump_same name other e) ∙ y.1)) ∙ sym y.2)

  two_reports : (r q : Report) → IsReport words content trace r → IsReport words content trace q → P r q
  two_reports r q (Of_usage n e) (Of_usage m f) = same r q (e ∙ sym f)
  two_reports r q (Of_usage n e) (Of_text name command fold text m c t) = absurd (never_none _ (sym n ∙ m))
  two_reports r q (Of_usage n e) (Of_workload threads running m t) = absurd (never_none _ (sym n ∙ m))
  two_reports r q (Of_usage n e) (Of_dump name m t) = absurd (never_none _ (sym n ∙ m))
  two_reports r q (Of_text name command fold text n c t) (Of_usage m e) = absurd (never_none _ (sym m ∙ n))
  two_reports r q (Of_text name command fold text n c t) (Of_text other also folds more m d u) = two_of_names r q name other command also fold folds text more n m c d t u
  two_reports r q (Of_text name command fold text n c t) (Of_workload threads running m u) = absurd (never_text name command fold threads running (sym n ∙ m))
  two_reports r q (Of_text name command fold text n c t) (Of_dump dump m u) = absurd (text_no_dump name command fold dump (sym n ∙ m))
  two_reports r q (Of_workload threads running n t) (Of_usage m e) = absurd (never_none _ (sym m ∙ n))
  two_reports r q (Of_workload threads running n t) (Of_text name command fold text m c u) = absurd (never_text name command fold threads running (sym m ∙ n))
  two_reports r q (Of_workload threads running n t) (Of_workload others also m u) = two_of_workloads r q threads others running also (sym n ∙ m) t u
  two_reports r q (Of_usage n e) (Of_farm name traces b text m c t) = absurd (never_none _ (sym n ∙ m))
  two_reports r q (Of_text name command fold text n c t) (Of_farm other traces b more m d u) = absurd (never_farm name command fold other traces b (sym n ∙ m))
  two_reports r q (Of_workload threads running n t) (Of_farm name traces b text m c u) = absurd (never_workload threads running name traces b (sym n ∙ m))
  two_reports r q (Of_farm name traces b text n c t) (Of_usage m e) = absurd (never_none _ (sym m ∙ n))
  two_reports r q (Of_farm name traces b text n c t) (Of_text other command fold more m d u) = absurd (never_farm other command fold name traces b (sym m ∙ n))
  two_reports r q (Of_farm name traces b text n c t) (Of_workload threads running m u) = absurd (never_workload threads running name traces b (sym m ∙ n))
  two_reports r q (Of_farm name traces b text n c t) (Of_farm other others also more m d u) = two_of_farms r q name other traces others b also text more (sym n ∙ m) c d t u
  two_reports r q (Of_workload threads running n t) (Of_dump dump m u) = absurd (workload_no_dump threads running dump (sym n ∙ m))
  two_reports r q (Of_farm name traces b text n c t) (Of_dump dump m u) = absurd (farm_no_dump name traces b dump (sym n ∙ m))
  two_reports r q (Of_dump dump n t) (Of_farm name traces b text m c u) = absurd (farm_no_dump name traces b dump (sym m ∙ n))
  two_reports r q (Of_dump dump n t) (Of_usage m e) = absurd (never_none _ (sym m ∙ n))
  two_reports r q (Of_dump dump n t) (Of_text name command fold text m c u) = absurd (text_no_dump name command fold dump (sym m ∙ n))
  two_reports r q (Of_dump dump n t) (Of_workload threads running m u) = absurd (workload_no_dump threads running dump (sym m ∙ n))
  two_reports r q (Of_dump dump n t) (Of_dump other m u) = two_dumps r q dump other (sym n ∙ m) t u
  two_reports r q (Of_usage n e) (Of_log name running text m c t) = absurd (never_none _ (sym n ∙ m))
  two_reports r q (Of_text name command fold text n c t) (Of_log other running more m d u) = absurd (text_no_log name command fold other running (sym n ∙ m))
  two_reports r q (Of_workload threads running n t) (Of_log name also text m c u) = absurd (workload_no_log threads running name also (sym n ∙ m))
  two_reports r q (Of_farm name traces b text n c t) (Of_log other running more m d u) = absurd (farm_no_log name traces b other running (sym n ∙ m))
  two_reports r q (Of_dump dump n t) (Of_log name running text m c u) = absurd (log_no_dump name running dump (sym m ∙ n))
  two_reports r q (Of_log name running text n c t) (Of_usage m e) = absurd (never_none _ (sym m ∙ n))
  two_reports r q (Of_log name running text n c t) (Of_text other command fold more m d u) = absurd (text_no_log other command fold name running (sym m ∙ n))
  two_reports r q (Of_log name running text n c t) (Of_workload threads also m u) = absurd (workload_no_log threads also name running (sym m ∙ n))
  two_reports r q (Of_log name running text n c t) (Of_farm other traces b more m d u) = absurd (farm_no_log other traces b name running (sym m ∙ n))
  two_reports r q (Of_log name running text n c t) (Of_dump dump m u) = absurd (log_no_dump name running dump (sym n ∙ m))
  two_reports r q (Of_log name running text n c t) (Of_log other also more m d u) = two_of_logs r q name other running also text more (sym n ∙ m) c d t u
  two_reports r q (Of_usage n e) (Of_replay name log b text m c t) = absurd (never_none _ (sym n ∙ m))
  two_reports r q (Of_text name command fold text n c t) (Of_replay other log b more m d u) = absurd (text_no_replay name command fold other log b (sym n ∙ m))
  two_reports r q (Of_workload threads running n t) (Of_replay name log b text m c u) = absurd (workload_no_replay threads running name log b (sym n ∙ m))
  two_reports r q (Of_farm name traces a text n c t) (Of_replay other log b more m d u) = absurd (farm_no_replay name traces a other log b (sym n ∙ m))
  two_reports r q (Of_log name running text n c t) (Of_replay other log b more m d u) = absurd (log_no_replay name running other log b (sym n ∙ m))
  two_reports r q (Of_dump dump n t) (Of_replay name log b text m c u) = absurd (replay_no_dump name log b dump (sym m ∙ n))
  two_reports r q (Of_replay name log b text n c t) (Of_usage m e) = absurd (never_none _ (sym m ∙ n))
  two_reports r q (Of_replay name log b text n c t) (Of_text other command fold more m d u) = absurd (text_no_replay other command fold name log b (sym m ∙ n))
  two_reports r q (Of_replay name log b text n c t) (Of_workload threads running m u) = absurd (workload_no_replay threads running name log b (sym m ∙ n))
  two_reports r q (Of_replay name log b text n c t) (Of_farm other traces a more m d u) = absurd (farm_no_replay other traces a name log b (sym m ∙ n))
  two_reports r q (Of_replay name log b text n c t) (Of_log other running more m d u) = absurd (log_no_replay other running name log b (sym m ∙ n))
  two_reports r q (Of_replay name log b text n c t) (Of_dump dump m u) = absurd (replay_no_dump name log b dump (sym n ∙ m))
  two_reports r q (Of_replay name log b text n c t) (Of_replay other more also texts m d u) = two_of_replays r q name other log more b also text texts (sym n ∙ m) c d t u

pub one_report : OneVerdict → AcceptedTextsAreFormed → RunHasOneLog → RunHasOneReplay → OnePlacement → OneReport
one_report one formed logs replays places words content trace r q not x y =
    two_reports one formed logs replays words content trace (λ a b. a ≡ b) (λ a b e. e)
    (λ name command fold is c d k l a b e t u.
    one_accepted places command c d (kernel_for fold k) (kernel_for fold l) trace a b (λ z. not (name, fold, subst (λ m. request_of words ≡ Some (OnText name m fold)) z is)) (accepts_for fold c d k l e) t u) r q x y

pub alike_reports : OneVerdict → AcceptedTextsAreFormed → RunHasOneLog → RunHasOneReplay → OnePlacement → AlikeReports
alike_reports one formed logs replays places words content trace r q x y =
    two_reports one formed logs replays words content trace (λ a b. (a ≡ b) ⊎ ListOneKernel a b) (λ a b e. inl e)
    (λ name command fold is c d k l a b e t u. alike_accepted places command c d (kernel_for fold k) (kernel_for fold l) trace a b (accepts_for fold c d k l e) t u) r q x y

-- ---- some report

some_threads : SomePlacement → (k : PlainKernel) (placing : PlainPlacing) (o : Option PlaceFault) → misplacing k placing ≡ o → ((r : Report) → ThreadsReport k placing r → ⊥) → ⊥
some_threads some k placing None e never = let p = some k placing e in never (threads_listed k p.0.places) (Of_placed p.0 e p.1 refl)
some_threads some k placing (Some why) e never = never (misplaced why) (Of_misplaced why e refl)

some_of_accepted : SomePlacement → (command : PlainCommand) (trace : Option (List ℕ)) (c : Counts) (k : PlainKernel) → WellFormed k → TellsTrace command trace →
    ((r : Report) → AcceptedReport command trace c k r → ⊥) → ⊥
some_of_accepted some (Run running) trace c k fine told never = never (run_report telling.Report k running told.0) (told.0, told.1, refl)
some_of_accepted some (Wave running) trace c k fine told never = never (run_report telling.Wave k running told.0) (told.0, told.1, refl)
some_of_accepted some Check trace c k fine told never = never (counts_report c) refl
some_of_accepted some (Threads placing) trace c k fine told never = some_threads some k placing (misplacing k placing) refl never
some_of_accepted some (Explain budget order) trace c k fine told never = never (explain_report k budget told.0) (told.0, told.1, refl)
some_of_accepted some Code trace c k fine told never =
    never (listing_report (kernel_code k)) (record { code = kernel_code k; valid = kernel_code_valid k fine; stands = kernel_code_stands k fine; lists = refl })

-- the kernel that a command is done with is well formed
fine_for : FoldingKeepsForm → (fold : Bool) (k : PlainKernel) → WellFormed k → WellFormed (kernel_for fold k)
fine_for keeps true k fine = keeps k fine
fine_for keeps false k fine = fine

-- a log that is held to a run over a trace
some_of_replay : (k : PlainKernel) (b : Budget) (lines bytes : List ℕ) (units : Option ℕ) → budget_for k b ≡ units → ((r : Report) → ReplayReport k b lines bytes r → ⊥) → ⊥
some_of_replay k b lines bytes None e never = never boundless (Of_no_bound e refl)
some_of_replay k b lines bytes (Some units) e never =
    ⊎_elim (λ long. never too_long (Of_long_log units e long refl)) (λ short. some_replay MAX_ROWS k units lines bytes (λ r is. never r (Of_replayed units e short is)))
    (cases_lt MAX_LOG_BYTES (length lines))

-- a run whose exchanges are logged
some_run_log : EachRunHasALog → (k : PlainKernel) → WellFormed k → (units : ℕ) (bytes : List ℕ) → ((r : Report) → IsRunLog MAX_ROWS k units bytes r → ⊥) → ⊥
some_run_log logs k fine units bytes never =
    let run = logs k fine (trace_turns MAX_ROWS k units bytes) (trace_pauses MAX_ROWS k units bytes) in
    ⊎_elim (λ full. never log_full (record { log = run.0; is = run.1; tells = Of_full full refl }))
    (λ kept. never (logged_report k.shape run.0 (run_status MAX_ROWS k units bytes)) (record { log = run.0; is = run.1; tells = Of_kept kept refl }))
    (cases_lt LOG_WORDS (log_words k.shape run.0))

some_of_log : EachRunHasALog → (k : PlainKernel) → WellFormed k → (running : PlainRunning) (bytes : List ℕ) → ((r : Report) → LogReport k running bytes r → ⊥) → ⊥
some_of_log logs k fine running bytes never = by_budget (budget_for k running.budget) refl
  where
    by_places : (units : ℕ) → budget_for k running.budget ≡ Some units → (o : Option PlaceFault) → misplacing k running.placing ≡ o → ⊥
    by_places units e None m = some_run_log logs k fine units bytes (λ r is. never r (Of_logged units e m is))
    by_places units e (Some why) m = never (misplaced why) (Of_misplaced_run units why e m refl)

    by_budget : (o : Option ℕ) → budget_for k running.budget ≡ o → ⊥
    by_budget None e = never boundless (Of_boundless e refl)
    by_budget (Some units) e = by_places units e (misplacing k running.placing) refl

some_of_text : SomeVerdict → (text : List ℕ) (Says : Counts → PlainKernel → Report → Type 0) →
    ((c : Counts) (k : PlainKernel) → Judged text (Accepts c k) → ((r : Report) → Says c k r → ⊥) → ⊥) → ((r : Report) → TextReport text Says r → ⊥) → ⊥
some_of_text verdict text Says some never = verdict text by
  where
    by : (v : Verdict) → Judged text v → ⊥
    by (Accepts c k) j = some c k j (λ r x. never r (Of_accepted c k j x))
    by (Refuses why) j = never (refused why) (Of_refusal why j refl)

module _ (verdict : SomeVerdict) (formed : AcceptedTextsAreFormed) (keeps : FoldingKeepsForm) (logs : EachRunHasALog) (some : SomePlacement) (words : List (List ℕ)) (content : List ℕ → Option (List ℕ))
    (trace : Option (List ℕ)) (told : IsKnown words content trace) (never : (r : Report) → IsReport words content trace r → ⊥) where
  some_of_words : (x : Option PlainRequest) → request_of words ≡ x → ⊥
  some_of_words None e = never usage (Of_usage e refl)
  some_of_words (Some (OnText name command fold)) e =
      let text = told.text name command fold e in
      some_of_text verdict text.0 (CommandReport command fold trace)
      (λ c k j. some_of_accepted some command trace c (kernel_for fold k) (fine_for keeps fold k (formed text.0 c k j)) text.2)
      (λ r t. never r (Of_text name command fold text.0 e text.1 t))
  some_of_words (Some (OnWorkload threads running)) e =
      some_of_text verdict _ (λ c k x. x ≡ workload_report threads running k) (λ c k j none. none (workload_report threads running k) refl)
      (λ r t. never r (Of_workload threads running e t))
  some_of_words (Some (OnTraces name traces b)) e =
      let text = told.farm name traces b e in
      some_of_text verdict text.0 (FarmedReport content traces b)
      (λ c k j none. none (with_budget (budget_for k b) (λ units. farm_report k units traces text.2.0)) (text.2.0, text.2.1, refl))
      (λ r t. never r (Of_farm name traces b text.0 e text.1 t))
  some_of_words (Some (OnLog name running)) e =
      let text = told.log name running e in
      some_of_text verdict text.0 (AcceptedLog running trace)
      (λ c k j none. some_of_log logs k (formed text.0 c k j) running text.2.0 (λ r is. none r (text.2.0, text.2.1, is)))
      (λ r t. never r (Of_log name running text.0 e text.1 t))
  some_of_words (Some (OnReplay name of b)) e =
      let texts = told.replay name of b e in
      some_of_text verdict texts.0 (AcceptedReplay content of b trace)
      (λ c k j none. some_of_replay k b texts.1 texts.4.0 (budget_for k b) refl (λ r is. none r (texts.1, texts.4.0, texts.3, texts.4.1, is)))
      (λ r t. never r (Of_replay name of b texts.0 e texts.2 t))
  some_of_words (Some (OnDump name)) e = let text = told.dump name e in never (dump_printed text.0) (Of_dump name e (text.0, text.1, refl))

pub some_report : SomeVerdict → AcceptedTextsAreFormed → FoldingKeepsForm → EachRunHasALog → SomePlacement → SomeReport
some_report verdict formed keeps logs some words content trace told never = some_of_words verdict formed keeps logs some words content trace told never (request_of words) refl
