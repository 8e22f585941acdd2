-- What the functions of a log print and read.
use Rattle.std.specs.Prelude.{◌≡◌, ◌⊎◌, ℕ, Bool, false, List, Option, None, Some, IfSome}
use Rattle.forec_base.specs.Outside.{Fell}
use Rattle.forec_base.specs.declared.limits.TheConstants.{MAX_ROWS}
use Rattle.forec_kernel.specs.Shapes.{PlainKernel}
use Rattle.command_words.specs.Requests.{PlainRunning}
use Rattle.forec_engine.specs.Budgets.{budget_for}
use Rattle.forec_engine.specs.Commands.{TextReport}
use Rattle.forec_engine.specs.Ends.{WantedForLog, ReadForText, AcceptedSo}
use Rattle.forec_engine.specs.Logs.{LogReport, AcceptedLog, TellsLog}
use Rattle.forec_engine.specs.Placing.{misplacing, IsRefusedRun}
use Rattle.log_runs.specs.RunLogs.{WantedUntold}
use Rattle.trace_ticks.specs.Ends.{ReadFor}
use Rattle.trace_ticks.specs.KernelNames.{run_format}
use Rattle.trace_ticks.specs.Led.{IsTold}
use Rattle.trace_ticks.specs.Prints.{Prints}
use Rattle.trace_ticks.specs.declared.format.Telling.TheVariants as telling
use Rattle.trace_ticks.specs.declared.status.Status.{Status}

module _ {S K : Type 0} (left : S → Option (List ℕ)) (faults : S → ℕ) (down : S → Bool) (held : K → Option (List ℕ)) (lost : K → ℕ)
    (is_down : K → Bool) (running : PlainRunning) where
  -- the exchanges of a kernel that runs so were logged
  pub record LogsKernel (k : PlainKernel) (old new : S) (out_old out_new : K) (end : Status) : Type 0 where
    pub prints : Prints held lost is_down (IsTold (left old)) (λ r. (bytes : List ℕ) × (left old ≡ Some bytes) × LogReport k running bytes r) (IsRefusedRun k running)
        (Fell (faults old) (faults new) (down new) × (misplacing k running.placing ≡ None)
        × (units : ℕ) × (budget_for k running.budget ≡ Some units) × WantedUntold MAX_ROWS k units (left old) (left new) (held out_old) (held out_new)) ⊥ out_old out_new end
    pub trace : (new ≡ old) ⊎ ((misplacing k running.placing ≡ None)
        × (units : ℕ) × (budget_for k running.budget ≡ Some units) × ReadFor left faults down MAX_ROWS (run_format telling.Report k) k units old new)

  -- those of the text of a name. `Lost`: the store of the texts failed
  pub record LogsNamed (content : List ℕ → Option (List ℕ)) (name : List ℕ) (Lost : Type 0) (old new : S) (out_old out_new : K) (end : Status) : Type 0 where
    pub prints : Prints held lost is_down (TellsLog content name (left old)) (λ r. (text : List ℕ) × (content name ≡ Some text) × TextReport text (AcceptedLog running (left old)) r)
        (IfSome (content name) (AcceptedSo (λ k. IsRefusedRun k running)))
        ((Lost × (held out_new ≡ held out_old)) ⊎ (Fell (faults old) (faults new) (down new)
        × IfSome (content name) (λ text. WantedForLog running text (left old) (left new) (held out_old) (held out_new)))) ⊥ out_old out_new end
    pub trace : (new ≡ old) ⊎ IfSome (content name) (λ text. ReadForText left faults down telling.Report false running text old new)
