-- What the bound is good for.
use Rattle.std.specs.Prelude.{ℕ, ℤ, true, List, [], ◌∷◌, ◌≡◌, ◌≢◌, ◌≤◌}
use Rattle.forec_kernel.specs.declared.shape.Outcome.TheVariants as outcome
use Rattle.forec_kernel.specs.Shapes.{PlainKernel}
use Rattle.forec_kernel.specs.Steps.{Path}
use Rattle.forec_kernel.specs.Ticks.{TickState, Fresh, Tick, tick, begin, steps_along, goes_on, run_of}
use Rattle.forec_kernel.specs.WellFormed.{WellFormed}
use Rattle.tick_bounds.specs.Bound.{worst_case}
use Rattle.bound_laws.specs.Paced.{Paced}

-- the states between the ticks of runs, whatever the budget of each tick
pub data IsReachable (k : PlainKernel) : TickState → Type 0 where
  at_first : IsReachable k Fresh
  after : (budget : ℕ) (old : TickState) (row : List ℤ) → IsReachable k old → goes_on (tick k budget old row).outcome ≡ true →
      IsReachable k (tick k budget old row).state

-- no tick takes more units than the bound: every state reached, every row, every budget, and every order of steps as far as it goes
abbrev pub TickWithinBound : Type 0
TickWithinBound =
    (k : PlainKernel) → WellFormed k → Paced k → (old : TickState) → IsReachable k old → (row : List ℤ) (budget : ℕ) (order : List Path) →
    (steps_along k budget order (begin k old row)).units ≤ worst_case k

-- with a budget of at least the bound no tick is over
abbrev pub NeverOver : Type 0
NeverOver =
    (k : PlainKernel) → WellFormed k → Paced k → (budget : ℕ) → worst_case k ≤ budget → (old : TickState) → IsReachable k old → (row : List ℤ) →
    (tick k budget old row).outcome ≢ outcome.Over

abbrev pub NoneOver : List Tick → Type 0
NoneOver [] = Unit {0}
NoneOver (t ∷ ts) = (t.outcome ≢ outcome.Over) × NoneOver ts

-- with a budget of at least the bound no run has a tick that is over
abbrev pub RunsNeverOver : Type 0
RunsNeverOver =
    (k : PlainKernel) → WellFormed k → Paced k → (budget : ℕ) → worst_case k ≤ budget → (rows : List (List ℤ)) → NoneOver (run_of k budget rows)
