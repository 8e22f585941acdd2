-- What the functions of a replay print and read.
use Rattle.std.specs.Prelude.{◌≡◌, ◌≤◌, ◌⊎◌, ℕ, Bool, List, Option, Some, IfSome, length}
use Rattle.forec_base.specs.Outside.{Fell}
use Rattle.forec_base.specs.declared.limits.TheConstants.{MAX_ROWS}
use Rattle.forec_kernel.specs.Shapes.{PlainKernel}
use Rattle.command_words.specs.declared.request.Budget.{Budget}
use Rattle.forec_engine.specs.Budgets.{budget_for, IsBoundless}
use Rattle.forec_engine.specs.Commands.{TextReport}
use Rattle.forec_engine.specs.Ends.{WantedForReplay, ReadForReplayOf, AcceptedSo}
use Rattle.forec_engine.specs.Replays.{NamedReplay, AcceptedReplay, TellsReplay}
use Rattle.log_runs.specs.ReplayRuns.{WantedByReplay, ReadForReplay}
use Rattle.log_runs.specs.declared.replaying.TheConstants.{MAX_LOG_BYTES}
use Rattle.trace_ticks.specs.Led.{IsTold}
use Rattle.trace_ticks.specs.Prints.{Prints}
use Rattle.trace_ticks.specs.declared.status.Status.{Status}

-- the log of a name is told, and the trace
abbrev pub TellsLogAndTrace : (List ℕ → Option (List ℕ)) → List ℕ → Option (List ℕ) → Type 0
TellsLogAndTrace content log trace = (lines : List ℕ) × (content log ≡ Some lines) × IsTold trace

-- `content`: the texts of the store; `log`: the name of the log. `Lost`: the store of the texts failed
module _ {S K : Type 0} (left : S → Option (List ℕ)) (faults : S → ℕ) (down : S → Bool) (held : K → Option (List ℕ)) (lost : K → ℕ)
    (is_down : K → Bool) (content : List ℕ → Option (List ℕ)) (log : List ℕ) (b : Budget) (Lost : Type 0) where
  -- the log was held to a kernel
  pub record ReplaysKernel (k : PlainKernel) (old new : S) (out_old out_new : K) (end : Status) : Type 0 where
    pub prints : Prints held lost is_down (TellsLogAndTrace content log (left old))
        (NamedReplay content log b (left old) k) (IsBoundless k b)
        ((Lost × (held out_new ≡ held out_old)) ⊎ (Fell (faults old) (faults new) (down new)
        × IfSome (content log) (λ text. (length text ≤ MAX_LOG_BYTES) × (units : ℕ) × (budget_for k b ≡ Some units)
        × WantedByReplay MAX_ROWS k units text (left old) (left new) (held out_old) (held out_new))))
        ⊥ out_old out_new end
    pub trace : (new ≡ old) ⊎ IfSome (content log) (λ text. (length text ≤ MAX_LOG_BYTES) × (units : ℕ) × (budget_for k b ≡ Some units)
        × ReadForReplay left faults down MAX_ROWS k units text old new)

  -- to the text of a name
  pub record ReplaysNamed (name : List ℕ) (old new : S) (out_old out_new : K) (end : Status) : Type 0 where
    pub prints : Prints held lost is_down (TellsReplay content name log (left old))
        (λ r. (text : List ℕ) × (content name ≡ Some text) × TextReport text (AcceptedReplay content log b (left old)) r)
        (IfSome (content name) (AcceptedSo (λ k. IsBoundless k b)))
        ((Lost × (held out_new ≡ held out_old)) ⊎ (Fell (faults old) (faults new) (down new)
        × IfSome (content name) (λ text. WantedForReplay content log b text (left old) (left new) (held out_old) (held out_new)))) ⊥ out_old out_new end
    pub trace : (new ≡ old) ⊎ IfSome (content name) (λ text. ReadForReplayOf left faults down content log b text old new)
