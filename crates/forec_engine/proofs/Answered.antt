-- What a command prints of an accepted text.
use Rattle.std.proofs.Common.{◌≡◌, ◌≢◌, ◌⊎◌, ◌≤◌, inl, inr, ℕ, nat_lt, Bool, true, false, cond, List, Option, Some, None, Result, Ok, Err, refl, sym, ap, subst, ◌∙◌}
use Rattle.std.specs.Option.{IfSome}
use Rattle.std.specs.Result.{IfOk}
use Rattle.std.proofs.lemmas.Bool.{ltb-false}
use Rattle.forec_base.specs.declared.limits.TheConstants.{MAX_BUDGET, MAX_ROWS}
use Rattle.forec_kernel.specs.Shapes.{PlainKernel}
use Rattle.core_alloc.specs.declared.fault.PlaceFault.{PlaceFault}
use Rattle.core_alloc.specs.declared.fault.PlaceFault.TheVariants as fault
use Rattle.command_words.specs.Requests.{PlainPlacing, PlainRunning, PlainCommand, Check, Threads, Code, Explain}
use Rattle.command_words.specs.declared.request.Budget.TheVariants as budget
use Rattle.tick_bounds.specs.Bound.{worst_case}
use Rattle.tick_bounds.specs.Capped.{as_budget}
use Rattle.text_verdict.specs.declared.counts.Counts.{Counts}
use Rattle.trace_ticks.specs.Led.{IsTold, RunsRows}
use Rattle.trace_ticks.specs.Prints.{Prints, PrintsReport}
use Rattle.trace_ticks.specs.Report.{Report, trace_report}
use Rattle.trace_ticks.specs.Workload.{ticked_report}
use Rattle.trace_ticks.specs.declared.status.Status.{Status}
use Rattle.trace_ticks.proofs.Printing.{prints_as}
use Rattle.forec_base.specs.Outside.{Fell}
use Rattle.trace_ticks.specs.Ends.{Wanted, ReadFor}
use Rattle.trace_ticks.specs.KernelNames.{run_format}
use Rattle.trace_ticks.specs.declared.format.Telling.{Telling}
use Rattle.trace_ticks.specs.declared.format.Telling.TheVariants as telling
use Rattle.forec_engine.specs.Answers.{AnswersAccepted}
use Rattle.forec_engine.specs.Ends.{run_with}
use Rattle.command_words.specs.declared.request.Budget.{Budget}
use Rattle.forec_engine.specs.Budgets.{budget_for, boundless, with_budget, IsBoundless}
use Rattle.forec_engine.specs.Commands.{ThreadsReport, Of_misplaced, IsListing, counts_report, run_report}
use Rattle.forec_engine.specs.Placing.{misplaced, misplacing, unless_misplaced, workload_report, IsMisplaced, IsRefusedRun}

-- why a list is refused, where memory isn't wanting
pub refused_by : (o : Option PlaceFault) (why : PlaceFault) → why ≢ fault.OutOfMemory → (why ≡ fault.OutOfMemory) ⊎ (o ≡ Some why) → o ≡ Some why
refused_by o why not (inl e) = absurd (not e)
refused_by o why not (inr e) = e

unmisplaced : (o : Option PlaceFault) (r : Report) → o ≡ None → r ≡ unless_misplaced o r
unmisplaced o r e = sym (ap (λ x. unless_misplaced x r) e)

is_misplaced : (o : Option PlaceFault) (why : PlaceFault) (r : Report) → o ≡ Some why → misplaced why ≡ unless_misplaced o r
is_misplaced o why r e = sym (ap (λ x. unless_misplaced x r) e)

-- with so many units, and without a bound
bounded : (o : Option ℕ) (units : ℕ) (f : ℕ → Report) → o ≡ Some units → f units ≡ with_budget o f
bounded o units f e = sym (ap (λ x. with_budget x f) e)

unbounded : (o : Option ℕ) (f : ℕ → Report) → o ≡ None → boundless ≡ with_budget o f
unbounded o f e = sym (ap (λ x. with_budget x f) e)

-- what refuses a list of places prints
abbrev pub Misplaces : {K : Type 0} → (K → Option (List ℕ)) → (K → ℕ) → (K → Bool) → PlaceFault → K → K → Status → Type 0
Misplaces {K} held lost is_down why out out' end =
    Prints held lost is_down Unit (λ r. (why ≢ fault.OutOfMemory) × (r ≡ misplaced why)) (why ≢ fault.OutOfMemory) ⊥ ⊥ out out' end

module _ {K : Type 0} (held : K → Option (List ℕ)) (lost : K → ℕ) (is_down : K → Bool) (out out' : K) (end : Status) where
  -- a workload
  module _ (threads : ℕ) (k : PlainKernel) (running : PlainRunning) where
    abbrev Ticked : ℕ → Report
    Ticked units = unless_misplaced (misplacing k running.placing) (ticked_report threads k units)

    pub workload_boundless : IsBoundless k running.budget → PrintsReport held lost is_down boundless Unit out out' end →
        PrintsReport held lost is_down (workload_report threads running k) (IsRefusedRun k running) out out' end
    workload_boundless b p =
        prints_as held lost is_down Unit (λ q. q ≡ boundless) Unit ⊥ ⊥ out out' Unit (λ q. q ≡ workload_report threads running k) (IsRefusedRun k running) ⊥ ⊥ end (λ t. t)
        (λ t r is. is ∙ unbounded (budget_for k running.budget) Ticked b) (λ _. inl b) (λ n. n) (λ n. n) p

    module _ (units : ℕ) (b : budget_for k running.budget ≡ Some units) where
      pub workload_placed : misplacing k running.placing ≡ None → PrintsReport held lost is_down (ticked_report threads k units) ⊥ out out' end →
          PrintsReport held lost is_down (workload_report threads running k) (IsRefusedRun k running) out out' end
      workload_placed e p =
          prints_as held lost is_down Unit (λ q. q ≡ ticked_report threads k units) ⊥ ⊥ ⊥ out out' Unit (λ q. q ≡ workload_report threads running k) (IsRefusedRun k running) ⊥ ⊥ end (λ t. t)
          (λ t r is. is ∙ unmisplaced (misplacing k running.placing) (ticked_report threads k units) e ∙ bounded (budget_for k running.budget) units Ticked b) (λ n. absurd n) (λ n. n) (λ n. n) p

      pub workload_misplaced : (why : PlaceFault) → (why ≡ fault.OutOfMemory) ⊎ (misplacing k running.placing ≡ Some why) → Misplaces held lost is_down why out out' end →
          PrintsReport held lost is_down (workload_report threads running k) (IsRefusedRun k running) out out' end
      workload_misplaced why o p =
          prints_as held lost is_down Unit (λ r. (why ≢ fault.OutOfMemory) × (r ≡ misplaced why)) (why ≢ fault.OutOfMemory) ⊥ ⊥ out out' Unit (λ q. q ≡ workload_report threads running k) (IsRefusedRun k running) ⊥ ⊥ end
          (λ t. t) (λ t r is. is.1 ∙ is_misplaced (misplacing k running.placing) why (ticked_report threads k units) (refused_by (misplacing k running.placing) why is.0 o) ∙ bounded (budget_for k running.budget) units Ticked b)
          (λ not. inr (why, refused_by (misplacing k running.placing) why not o)) (λ n. n) (λ n. n) p

  -- a list of threads
  module _ (k : PlainKernel) (placing : PlainPlacing) where
    pub threads_misplaced : (why : PlaceFault) → (why ≡ fault.OutOfMemory) ⊎ (misplacing k placing ≡ Some why) → Misplaces held lost is_down why out out' end →
        Prints held lost is_down Unit (ThreadsReport k placing) (IsMisplaced k placing) ⊥ ⊥ out out' end
    threads_misplaced why o p =
        prints_as held lost is_down Unit (λ r. (why ≢ fault.OutOfMemory) × (r ≡ misplaced why)) (why ≢ fault.OutOfMemory) ⊥ ⊥ out out' Unit (ThreadsReport k placing) (IsMisplaced k placing) ⊥ ⊥ end (λ t. t)
        (λ t r is. Of_misplaced why (refused_by (misplacing k placing) why is.0 o) is.1) (λ not. (why, refused_by (misplacing k placing) why not o)) (λ n. n) (λ n. n) p

  -- ---- commands

  module _ {S : Type 0} (left : S → Option (List ℕ)) (faults : S → ℕ) (down : S → Bool) (counts : Counts) (k : PlainKernel) (old new : S) where
    abbrev Did : PlainCommand → Type 0
    Did command = AnswersAccepted left faults down held lost is_down command counts k old new out out' end

    -- what a run did, of which this is told
    record DidRun (tells : Telling) (running : PlainRunning) : Type 0 where
      prints : Prints held lost is_down (IsTold (left old)) (λ r. (bytes : List ℕ) × (left old ≡ Some bytes) × (r ≡ run_report tells k running bytes)) (IsRefusedRun k running)
          (Fell (faults old) (faults new) (down new) × (misplacing k running.placing ≡ None)
          × (units : ℕ) × (budget_for k running.budget ≡ Some units) × Wanted MAX_ROWS (run_format tells k) k units (left old) (left new) (held out) (held out')) ⊥ out out' end
      trace : (new ≡ old) ⊎ ((misplacing k running.placing ≡ None)
          × (units : ℕ) × (budget_for k running.budget ≡ Some units) × ReadFor left faults down MAX_ROWS (run_format tells k) k units old new)

    told_with : (tells : Telling) (running : PlainRunning) → DidRun tells running → Did (run_with tells running)
    told_with telling.Report running d = record {
      prints = prints_as held lost is_down _ _ _ _ _ out out' _ _ _ _ _ end (λ t. t) (λ t r is. is)
          (λ m. elim m [ inl b ↦ inl (running, refl, b) | inr m ↦ inr (running.placing, refl, m) ]) (λ u. (running, refl, u)) (λ n. absurd n) d.prints;
      trace = elim d.trace [ inl same ↦ inl same | inr r ↦ inr (running, refl, r) ];
    }
    told_with telling.Wave running d = record {
      prints = prints_as held lost is_down _ _ _ _ _ out out' _ _ _ _ _ end (λ t. t) (λ t r is. is)
          (λ m. elim m [ inl b ↦ inl (running, refl, b) | inr m ↦ inr (running.placing, refl, m) ]) (λ u. (running, refl, u)) (λ n. absurd n) d.prints;
      trace = elim d.trace [ inl same ↦ inl same | inr r ↦ inr (running, refl, r) ];
    }

    -- a run, of which this is told
    module _ (tells : Telling) (running : PlainRunning) where
      abbrev Reported : ℕ → List ℕ → Report
      Reported units bytes = unless_misplaced (misplacing k running.placing) (trace_report MAX_ROWS (run_format tells k) k units bytes)

      pub run_boundless : IsBoundless k running.budget → new ≡ old → PrintsReport held lost is_down boundless Unit out out' end → Did (run_with tells running)
      run_boundless b same p = told_with tells running (record {
        prints = prints_as held lost is_down _ _ _ _ _ out out' _ _ _ _ _ end (λ t. tt)
            (λ t r is. (t.0, t.1, is ∙ unbounded (budget_for k running.budget) (λ units. Reported units t.0) b)) (λ _. inl b) (λ n. absurd n) (λ n. n) p;
        trace = inl same;
      })

      module _ (units : ℕ) (b : budget_for k running.budget ≡ Some units) where
        pub run_placed : misplacing k running.placing ≡ None → RunsRows left faults down held lost is_down MAX_ROWS (run_format tells k) k units ⊥ old new out out' end → Did (run_with tells running)
        run_placed e p = told_with tells running (record {
          prints = prints_as held lost is_down _ _ _ _ _ out out' _ _ _ _ _ end (λ t. t)
              (λ t r is. (
                is.0,
                is.1,
                is.2 ∙ unmisplaced (misplacing k running.placing) (trace_report MAX_ROWS (run_format tells k) k units is.0) e ∙ bounded (budget_for k running.budget) units (λ u. Reported u is.0) b,
              ))
              (λ n. absurd n) (λ u. (u.0, e, units, b, u.1)) (λ n. n) p.prints;
          trace = inr (e, units, b, p.trace);
        })

        pub run_misplaced : (why : PlaceFault) → new ≡ old → (why ≡ fault.OutOfMemory) ⊎ (misplacing k running.placing ≡ Some why) → Misplaces held lost is_down why out out' end → Did (run_with tells running)
        run_misplaced why same o p = told_with tells running (record {
          prints = prints_as held lost is_down _ _ _ _ _ out out' _ _ _ _ _ end (λ t. tt)
              (λ t r is. (
                t.0,
                t.1,
                is.1 ∙ is_misplaced (misplacing k running.placing) why (trace_report MAX_ROWS (run_format tells k) k units t.0) (refused_by (misplacing k running.placing) why is.0 o)
                    ∙ bounded (budget_for k running.budget) units (λ u. Reported u t.0) b,
              ))
              (λ not. inr (why, refused_by (misplacing k running.placing) why not o)) (λ n. absurd n) (λ n. n) p;
          trace = inl same;
        })

    pub explain_boundless : (b : Budget) (order : ℕ) → IsBoundless k b → new ≡ old → PrintsReport held lost is_down boundless Unit out out' end → Did (Explain b order)
    explain_boundless b order none same p = record {
      prints = prints_as held lost is_down _ _ _ _ _ out out' _ _ _ _ _ end (λ t. tt)
          (λ t r is. (t.0, t.1, is ∙ unbounded (budget_for k b) (λ units. trace_report MAX_ROWS (run_format telling.Report k) k units t.0) none)) (λ _. inl (_, refl, none)) (λ n. absurd n) (λ n. absurd n) p;
      trace = inl same;
    }

    pub explained : (b : Budget) (order units : ℕ) → budget_for k b ≡ Some units → RunsRows left faults down held lost is_down MAX_ROWS (run_format telling.Report k) k units Unit old new out out' end → Did (Explain b order)
    explained b order units is_so p = record {
      prints = prints_as held lost is_down _ _ _ _ _ out out' _ _ _ _ _ end (λ t. t)
          (λ t r is. (is.0, is.1, is.2 ∙ bounded (budget_for k b) units (λ u. trace_report MAX_ROWS (run_format telling.Report k) k u is.0) is_so)) (λ n. absurd n) (λ u. (_, refl, (u.0, refl, units, is_so, u.1))) (λ _. (b, order, refl)) p.prints;
      trace = inr (_, refl, (refl, units, is_so, p.trace));
    }

    pub checked : new ≡ old → PrintsReport held lost is_down (counts_report counts) ⊥ out out' end → Did Check
    checked same p = record { prints = prints_as held lost is_down _ _ _ _ _ out out' _ _ _ _ _ end (λ t. tt) (λ t r is. is) (λ n. absurd n) (λ n. absurd n) (λ n. absurd n) p; trace = inl same }

    pub threaded : (placing : PlainPlacing) → new ≡ old → Prints held lost is_down Unit (ThreadsReport k placing) (IsMisplaced k placing) ⊥ ⊥ out out' end → Did (Threads placing)
    threaded placing same p = record {
      prints = prints_as held lost is_down _ _ _ _ _ out out' _ _ _ _ _ end (λ t. tt) (λ t r is. is) (λ m. inr (placing, refl, m)) (λ n. absurd n) (λ n. absurd n) p;
      trace = inl same;
    }

    pub coded : new ≡ old → Prints held lost is_down Unit (IsListing k) ⊥ ⊥ ⊥ out out' end → Did Code
    coded same p = record { prints = prints_as held lost is_down _ _ _ _ _ out out' _ _ _ _ _ end (λ t. tt) (λ t r is. is) (λ n. absurd n) (λ n. absurd n) (λ n. absurd n) p; trace = inl same }

-- the bound as a budget
small_bound : (n : ℕ) (over : Bool) → nat_lt MAX_BUDGET n ≡ over → IfSome (cond over None (Some n)) (λ most. most ≤ MAX_BUDGET)
small_bound n true e = tt
small_bound n false e = ltb-false MAX_BUDGET n e

pub bound_units : {E : Type 0} (k : PlainKernel) (b : Budget) (r : Result (Option ℕ) E) → b ≡ budget.Bound → IfOk r (λ x. x ≡ as_budget (worst_case k)) → IfOk r (λ units. units ≡ budget_for k b)
bound_units k b (Ok x) is e = e ∙ sym (ap (budget_for k) is)
bound_units k b (Err x) is e = tt

pub bound_small : {E : Type 0} (k : PlainKernel) (r : Result (Option ℕ) E) → IfOk r (λ x. x ≡ as_budget (worst_case k)) → IfOk r (λ units. IfSome units (λ most. most ≤ MAX_BUDGET))
bound_small k (Ok x) e = subst (λ (o : Option ℕ). IfSome o (λ most. most ≤ MAX_BUDGET)) (sym e) (small_bound (worst_case k) (nat_lt MAX_BUDGET (worst_case k)) refl)
bound_small k (Err x) e = tt
