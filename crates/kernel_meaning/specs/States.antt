-- States between ticks, and thread 0 within one.
use Rattle.std.specs.Prelude.{ℕ, ℤ, ◌+◌, ◌<◌, ◌≡◌, Bool, true, false, Option, Some, None, List, []}
use Rattle.std.specs.declared.result.Result.{Result}
use Rattle.std.specs.declared.result.Result.TheVariants.{Ok, Err}
use Rattle.forec_kernel.specs.declared.shape.KernelParts.{KernelParts}
use Rattle.forec_kernel.specs.Shapes.{PlainKernel, plain_kernel}
use Rattle.forec_kernel.specs.Texts as plain
use Rattle.forec_kernel.specs.Texts.{uses_of}
use Rattle.forec_kernel.specs.Steps.{Path, thread_move}
use Rattle.forec_kernel.specs.Ticks as ticks
use Rattle.forec_kernel.specs.Ticks.{Going, steps_along, outcome_of, values_of, tick}
use Rattle.forec_kernel.specs.declared.shape.Outcome.{Outcome}
use Rattle.forec_kernel.specs.declared.shape.Outcome.TheVariants as outcome
use Rattle.running_texts.specs.declared.meter.Halt.{Halt}
use Rattle.running_texts.specs.declared.meter.Halt.TheVariants.{Trapped, Over, OutOfMemory}
use Rattle.running_threads.specs.declared.threads.Thread.{Thread}
use Rattle.running_threads.specs.Views.{plain_running_thread, plain_status}
use Rattle.running_steps.specs.Moving.{IsThread, after_move}
use Rattle.kernel_meaning.specs.declared.ticks.State.{State}

abbrev pub main_state : Option Thread → ticks.TickState
main_state None = ticks.Fresh
main_state (Some t) = ticks.After_tick (plain_running_thread t)

-- the plain value of a state
abbrev pub plain_state : State → ticks.TickState
plain_state s = main_state s.main

-- the tick of a kernel from a state
abbrev pub tick_of_state : KernelParts → ℕ → State → List ℤ → ticks.Tick
tick_of_state k budget s row = tick (plain_kernel k) budget (plain_state s) row

-- a tick whose outputs are told
abbrev pub is_told : Outcome → Bool
is_told outcome.Paused = true
is_told outcome.Ended = true
is_told (outcome.Trapped place trap) = false
is_told outcome.Over = false

-- ---- a tick in progress

-- thread 0 is what some steps come to, with so much of the budget left
pub record Along (k : PlainKernel) (budget : ℕ) (from : Going) (t : plain.Thread) (rest : ℕ) : Type 0 where
  pub order : List Path
  pub units : ℕ
  pub is : steps_along k budget order from ≡ record { thread = t; units = units }
  pub left : rest + units ≡ budget

-- some steps pass the budget
pub record PassesBudget (k : PlainKernel) (budget : ℕ) (from : Going) : Type 0 where
  pub order : List Path
  pub over : budget < (steps_along k budget order from).units

abbrev pub CameTo : {A : Type 0} → PlainKernel → ℕ → Going → plain.Thread → ℕ → Result A Halt → Type 0
CameTo k budget from t new (Ok x) = Along k budget from t new
CameTo k budget from t new (Err (Trapped place trap)) = ⊥
CameTo k budget from t new (Err Over) = PassesBudget k budget from
CameTo k budget from t new (Err OutOfMemory) = Unit {0}

-- going on along some steps from where other steps have come to
pub record CarriesOn {A : Type 0} (k : PlainKernel) (before after : plain.Thread) (old new : ℕ) (result : Result A Halt) : Type 0 where
  pub on : (budget : ℕ) (from : Going) → Along k budget from before old → CameTo k budget from after new result

-- thread 0 after a step along some path
pub record Advances {A : Type 0} (k : PlainKernel) (before after : plain.Thread) (old new : ℕ) (result : Result A Halt) : Type 0 where
  pub path : Path
  pub is : IsThread old new after result (after_move before (thread_move k path before))

-- ---- how a tick ends

abbrev pub told_tick : PlainKernel → ticks.TickState → Option Thread → ticks.Tick
told_tick k old None = record { outcome = outcome.Over; outputs = []; state = old }
told_tick k old (Some t) =
    record {
      outcome = outcome_of (plain_status t.status);
      outputs = values_of (uses_of k 0) t.copies.items k.shape.outputs;
      state = ticks.After_tick (plain_running_thread t);
    }
