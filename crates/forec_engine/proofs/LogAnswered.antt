-- What is printed of a log.
use Rattle.std.proofs.Common.{◌≡◌, ◌⊎◌, inl, inr, ℕ, Bool, List, Option, Some, None}
use Rattle.forec_base.specs.declared.limits.TheConstants.{MAX_ROWS}
use Rattle.forec_kernel.specs.Shapes.{PlainKernel}
use Rattle.core_alloc.specs.declared.fault.PlaceFault.{PlaceFault}
use Rattle.core_alloc.specs.declared.fault.PlaceFault.TheVariants as fault
use Rattle.command_words.specs.Requests.{PlainRunning}
use Rattle.log_runs.specs.RunLogs.{LogsRows}
use Rattle.text_verdict.specs.declared.counts.Counts.{Counts}
use Rattle.trace_ticks.specs.Prints.{PrintsReport}
use Rattle.trace_ticks.specs.declared.status.Status.{Status}
use Rattle.trace_ticks.proofs.Printing.{prints_as}
use Rattle.forec_engine.specs.Budgets.{budget_for, boundless, IsBoundless}
use Rattle.forec_engine.specs.Commands.{Of_accepted, IsProgram}
use Rattle.forec_engine.specs.Logging.{LogsKernel, LogsNamed}
use Rattle.forec_engine.specs.Logs.{Of_boundless, Of_misplaced_run, Of_logged}
use Rattle.forec_engine.specs.Placing.{misplacing}
use Rattle.forec_engine.proofs.Answered.{Misplaces, refused_by}
use Rattle.forec_engine.proofs.Named.{told_program, of_program}

module _ {S K : Type 0} (left : S → Option (List ℕ)) (faults : S → ℕ) (down : S → Bool) (held : K → Option (List ℕ)) (lost : K → ℕ) (is_down : K → Bool)
    (running : PlainRunning) (old new : S) (out out' : K) where
  -- ---- of a kernel

  module _ (k : PlainKernel) where
    abbrev Kernel : Status → Type 0
    Kernel end = LogsKernel left faults down held lost is_down running k old new out out' end

    pub log_boundless : (end : Status) → IsBoundless k running.budget → new ≡ old → PrintsReport held lost is_down boundless Unit out out' end → Kernel end
    log_boundless end b same p = record {
      prints = prints_as held lost is_down _ _ _ _ _ out out' _ _ _ _ _ end (λ t. tt) (λ t r is. (t.0, t.1, Of_boundless b is)) (λ _. inl b) (λ n. absurd n) (λ n. n) p;
      trace = inl same;
    }

    module _ (units : ℕ) (b : budget_for k running.budget ≡ Some units) where
      pub log_placed : (end : Status) → misplacing k running.placing ≡ None → LogsRows left faults down held lost is_down MAX_ROWS k units old new out out' end → Kernel end
      log_placed end e p = record {
        prints = prints_as held lost is_down _ _ _ _ _ out out' _ _ _ _ _ end (λ t. t) (λ t r is. (is.0, is.1, Of_logged units b e is.2)) (λ n. absurd n)
            (λ u. (u.0, e, units, b, u.1)) (λ n. n) p.prints;
        trace = inr (e, units, b, p.trace);
      }

      pub log_misplaced : (end : Status) (why : PlaceFault) → (why ≡ fault.OutOfMemory) ⊎ (misplacing k running.placing ≡ Some why) → new ≡ old →
          Misplaces held lost is_down why out out' end → Kernel end
      log_misplaced end why o same p = record {
        prints = prints_as held lost is_down _ _ _ _ _ out out' _ _ _ _ _ end (λ t. tt)
            (λ t r is. (t.0, t.1, Of_misplaced_run units why b (refused_by (misplacing k running.placing) why is.0 o) is.1))
            (λ not. inr (why, refused_by (misplacing k running.placing) why not o)) (λ n. absurd n) (λ n. n) p;
        trace = inl same;
      }

  -- ---- of the program of a name

  module _ (content : List ℕ → Option (List ℕ)) (name : List ℕ) (Lost : Type 0) (counts : Counts) (k : PlainKernel) where
    pub log_accepted : (end : Status) → IsProgram (content name) counts k → LogsKernel left faults down held lost is_down running k old new out out' end →
        LogsNamed left faults down held lost is_down running content name Lost old new out out' end
    log_accepted end program p = record {
      prints = prints_as held lost is_down _ _ _ _ _ out out' _ _ _ _ _ end (λ t. t.2) (λ t r is. (t.0, t.1, Of_accepted counts k (told_program (content name) counts k program t.0 t.1) is))
          (λ m. of_program (content name) counts k program _ (λ x j. (counts, k, j, m)))
          (λ u. inr (u.0, of_program (content name) counts k program _ (λ x j. (k, u.2, record { counts = counts; judged = j; bounded = u.3; placed = u.1 }, u.4)))) (λ n. n) p.prints;
      trace = elim p.trace [
        | inl same ↦ inl same
        | inr r ↦ inr (of_program (content name) counts k program _ (λ x j. (k, r.1, record { counts = counts; judged = j; bounded = r.2; placed = r.0 }, r.3)))
      ];
    }
