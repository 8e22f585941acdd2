-- What is printed where a log is replayed.
use Rattle.std.proofs.Common.{◌≡◌, ◌<◌, ◌≤◌, inl, inr, ℕ, Bool, List, Option, Some, None, length, refl, subst}
use Rattle.std.proofs.Math.Path.{fun_ext}
use Rattle.std.specs.Option.{IfSome}
use Rattle.forec_base.specs.declared.limits.TheConstants.{MAX_ROWS}
use Rattle.forec_kernel.specs.Shapes.{PlainKernel}
use Rattle.command_words.specs.declared.request.Budget.{Budget}
use Rattle.log_runs.specs.ReplayRuns.{IsReplay, ReplaysRows, WantedByReplay, ReadForReplay}
use Rattle.log_runs.specs.declared.replaying.TheConstants.{MAX_LOG_BYTES}
use Rattle.text_verdict.specs.declared.counts.Counts.{Counts}
use Rattle.text_verdict.specs.declared.refusal.Refusal.TheVariants as why
use Rattle.trace_ticks.specs.Prints.{PrintsReport}
use Rattle.trace_ticks.specs.declared.status.Status.{Status}
use Rattle.trace_ticks.proofs.Told.{some_map}
use Rattle.trace_ticks.proofs.Printing.{prints_as, told_is}
use Rattle.forec_engine.specs.Budgets.{budget_for, boundless, IsBoundless}
use Rattle.forec_engine.specs.Commands.{Of_accepted, IsProgram, refused}
use Rattle.forec_engine.specs.Replaying.{ReplaysKernel, ReplaysNamed}
use Rattle.forec_engine.specs.Replays.{Of_no_bound, Of_long_log, Of_replayed}
use Rattle.forec_engine.proofs.Named.{told_program, of_program}

-- what holds of a text that is told
some_told : (a : Option (List ℕ)) (P Q : List ℕ → Type 0) → IfSome a P → ((x : List ℕ) → a ≡ Some x → P x → Q x) → IfSome a Q
some_told None P Q h f = tt
some_told (Some x) P Q h f = f x refl h

module _ {S K : Type 0} (left : S → Option (List ℕ)) (faults : S → ℕ) (down : S → Bool) (held : K → Option (List ℕ)) (lost : K → ℕ) (is_down : K → Bool)
    (content : List ℕ → Option (List ℕ)) (log : List ℕ) (b : Budget) (Lost : Type 0) (old new : S) (out out' : K) where
  -- ---- of a kernel

  module _ (k : PlainKernel) where
    abbrev Kernel : Status → Type 0
    Kernel end = ReplaysKernel left faults down held lost is_down content log b Lost k old new out out' end

    pub replay_boundless : (end : Status) → IsBoundless k b → new ≡ old → PrintsReport held lost is_down boundless Unit out out' end → Kernel end
    replay_boundless end none same p = record {
      prints = prints_as held lost is_down _ _ _ _ _ out out' _ _ _ _ _ end (λ t. tt) (λ t r is. (t.0, t.2.0, t.1, t.2.1, Of_no_bound none is)) (λ _. none) (λ n. absurd n) (λ n. n) p;
      trace = inl same;
    }

    module _ (units : ℕ) (bounded : budget_for k b ≡ Some units) where
      pub replay_read : (lines : List ℕ) (end : Status) → length lines ≤ MAX_LOG_BYTES → IfSome (content log) (λ x. lines ≡ x) →
          ReplaysRows left faults down held lost is_down MAX_ROWS k units lines old new out out' end → Kernel end
      replay_read lines end short same p = record {
        prints = prints_as held lost is_down _ _ _ _ _ out out' _ _ _ _ _ end (λ t. t.2)
            (λ t r is. let e = told_is (content log) (λ x. lines ≡ x) t.0 same t.1 in
            (t.0, is.0, t.1, is.1, Of_replayed units bounded (short_too t.0 e) (subst (λ (x : List ℕ). IsReplay MAX_ROWS k units x is.0 r) e is.2)))
            (λ n. absurd n)
            (λ u. inr (
              u.0,
              some_map (content log) (λ x. lines ≡ x) _ same (λ x e. (
                short_too x e,
                units,
                bounded,
                subst (λ (t : List ℕ). WantedByReplay MAX_ROWS k units t (left old) (left new) (held out) (held out')) e u.1,
              )),
            )) (λ n. n) p.prints;
        trace = elim p.trace [
          | inl kept ↦ inl kept
          | inr r ↦ inr (some_map (content log) (λ x. lines ≡ x) _ same (λ x e. (
            short_too x e,
            units,
            bounded,
            subst (λ (t : List ℕ). ReadForReplay left faults down MAX_ROWS k units t old new) e r,
          )))
        ];
      }
        where
          short_too : (x : List ℕ) → lines ≡ x → length x ≤ MAX_LOG_BYTES
          short_too x e = subst (λ (t : List ℕ). length t ≤ MAX_LOG_BYTES) e short

      pub replay_long : (end : Status) → IfSome (content log) (λ x. MAX_LOG_BYTES < length x) → new ≡ old → PrintsReport held lost is_down (refused why.Long) ⊥ out out' end → Kernel end
      replay_long end long same p = record {
        prints = prints_as held lost is_down _ _ _ _ _ out out' _ _ _ _ _ end (λ t. tt)
            (λ t r is. (t.0, t.2.0, t.1, t.2.1, Of_long_log units bounded (told_is (content log) (λ x. MAX_LOG_BYTES < length x) t.0 long t.1) is)) (λ n. absurd n) (λ n. absurd n) (λ n. n) p;
        trace = inl same;
      }

  -- ---- of the program of a name

  -- the store's contents are the same once the program was read, and a fault of a later call is one of all calls
  module _ (name : List ℕ) (counts : Counts) (k : PlainKernel) (other : List ℕ → Option (List ℕ)) (same : (n : List ℕ) → other n ≡ content n) (Less : Type 0) (more : Less → Lost) where
    pub replay_accepted : (end : Status) → IsProgram (content name) counts k → ReplaysKernel left faults down held lost is_down other log b Less k old new out out' end →
        ReplaysNamed left faults down held lost is_down content log b Lost name old new out out' end
    replay_accepted end program p =
        let q = subst (λ (c : List ℕ → Option (List ℕ)). ReplaysKernel left faults down held lost is_down c log b Less k old new out out' end) (fun_ext same) p in
        record {
          prints = prints_as held lost is_down _ _ _ _ _ out out' _ _ _ _ _ end (λ t. (t.1, t.3, t.4)) (λ t r is. (t.0, t.2, Of_accepted counts k (told_program (content name) counts k program t.0 t.2) is))
              (λ m. of_program (content name) counts k program _ (λ x j. (counts, k, j, m)))
              (λ u. elim u [
                | inl l ↦ inl (more l.0, l.1)
                | inr w ↦ inr (
                  w.0,
                  of_program (content name) counts k program _ (λ x j. some_told (content log) _ _ w.1 (λ lines e y. (k, y.1, record { counts = counts; judged = j; bounded = y.2; told = e; short = y.0 }, y.3))),
                )
              ]) (λ n. n) q.prints;
          trace = elim q.trace [
            | inl kept ↦ inl kept
            | inr r ↦ inr (of_program (content name) counts k program _ (λ x j. some_told (content log) _ _ r (λ lines e y. (k, y.1, record { counts = counts; judged = j; bounded = y.2; told = e; short = y.0 }, y.3))))
          ];
        }
