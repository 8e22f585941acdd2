-- What a run gives fits 32 bits.
use Rattle.std.specs.Prelude.{ℕ, ℤ, List, length, ◌≡◌, ◌≢◌, FitsSigned}
use Rattle.std.specs.Int.{w32}
use Rattle.std.specs.List.{AllByRecursion}
use Rattle.forec_kernel.specs.declared.shape.Outcome.TheVariants as outcome
use Rattle.forec_kernel.specs.Shapes.{PlainKernel}
use Rattle.forec_kernel.specs.Ticks.{TickState, Fresh, Tick, tick, run_from}
use Rattle.value_ranges.specs.Words.{AreWords, KernelWords}

-- the states between the ticks of runs whose rows' numbers fit, whatever the budget of each tick, and whatever its outcome
pub data FitReached (k : PlainKernel) : TickState → Type 0 where
  at_first : FitReached k Fresh
  after : (budget : ℕ) (old : TickState) (row : List ℤ) → FitReached k old → AreWords row → FitReached k (tick k budget old row).state

-- The outputs of a tick fit, and where it isn't over its budget there is a number for each output of the shape.
pub record TickWords (k : PlainKernel) (t : Tick) : Type 0 where
  pub each : AllByRecursion (FitsSigned w32) t.outputs
  pub count : t.outcome ≢ outcome.Over → length t.outputs ≡ length k.shape.outputs

-- each tick, from each state that is reached
abbrev pub TicksFit : Type 0
TicksFit =
    (k : PlainKernel) → KernelWords k → (old : TickState) → FitReached k old → (budget : ℕ) (row : List ℤ) → AreWords row →
    TickWords k (tick k budget old row)

-- each tick of each run
abbrev pub ValuesFit : Type 0
ValuesFit =
    (k : PlainKernel) → KernelWords k → (budget : ℕ) (rows : List (List ℤ)) → AllByRecursion AreWords rows →
    AllByRecursion (TickWords k) (run_from k budget Fresh rows)
