-- What folding keeps.
use Rattle.std.specs.Prelude.{ℕ, suc, true, ◌≡◌, ◌≢◌, ◌≤◌, ℤ, List, [], ◌∷◌}
use Rattle.forec_kernel.specs.declared.shape.Outcome.TheVariants as outcome
use Rattle.forec_kernel.specs.Terms.{Expr}
use Rattle.forec_kernel.specs.Shapes.{PlainKernel}
use Rattle.forec_kernel.specs.Values.{Value, Gives, Raises, Setting, Sight, val, call}
use Rattle.forec_kernel.specs.Ticks.{TickState, Fresh, Tick, tick, begin, finished, is_stopped, goes_on, run_of}
use Rattle.forec_kernel.specs.WellFormed.{WellFormed}
use Rattle.bound_laws.specs.Paced.{Paced}
use Rattle.fold_laws.specs.Folding.{fold_expr, folded_kernel}

-- ---- values

-- the same number or trap, and at most as many units
abbrev pub NoWorse : Value → Value → Type 0
NoWorse (Gives n u) (Gives m v) = (m ≡ n) × (v ≤ u)
NoWorse (Gives n u) (Raises place trap v) = ⊥
NoWorse (Raises place trap u) (Gives m v) = ⊥
NoWorse (Raises place trap u) (Raises place' trap' v) = (place' ≡ place) × (trap' ≡ trap) × (v ≤ u)

abbrev pub FoldsExpressions : Type 0
FoldsExpressions = (s : Setting) (e : Sight) (a : Expr) → NoWorse (val s e a) (val s e (fold_expr a))

abbrev pub FoldsFunctions : Type 0
FoldsFunctions = (k : PlainKernel) (f : ℕ) (numbers : List ℤ) → NoWorse (call k f numbers) (call (folded_kernel k) f numbers)

-- ---- runs

-- The second run is the first one up to the first tick that is over there: the same outcomes, and the same outputs.
abbrev pub UpToOver : List Tick → List Tick → Type 0
UpToOver [] ys = ys ≡ []
UpToOver (t ∷ ts) [] = ⊥
UpToOver (t ∷ ts) (y ∷ ys) = t.outcome ≢ outcome.Over → (y.outcome ≡ t.outcome) × (y.outputs ≡ t.outputs) × UpToOver ts ys

-- for every budget and every list of rows
abbrev pub RunsAsBefore : PlainKernel → PlainKernel → Type 0
RunsAsBefore k k' = (budget : ℕ) (rows : List (List ℤ)) → UpToOver (run_of k budget rows) (run_of k' budget rows)

abbrev pub FoldingKeepsRuns : Type 0
FoldingKeepsRuns = (k : PlainKernel) → RunsAsBefore k (folded_kernel k)

-- the units of a tick, up to the step that stops it
abbrev pub tick_units : PlainKernel → ℕ → TickState → List ℤ → ℕ
tick_units k budget old row = (finished k (is_stopped budget) (suc budget) (begin k old row)).units

pub record TicksAlike (k k' : PlainKernel) (budget : ℕ) (old old' : TickState) (row : List ℤ) : Type 0 where
  pub outcome : (tick k' budget old' row).outcome ≡ (tick k budget old row).outcome
  pub outputs : (tick k' budget old' row).outputs ≡ (tick k budget old row).outputs
  pub units : tick_units k' budget old' row ≤ tick_units k budget old row

-- tick by tick, each kernel from its own state, up to the first tick that is over in the first kernel
abbrev pub RunsAlike : PlainKernel → PlainKernel → ℕ → TickState → TickState → List (List ℤ) → Type 0
RunsAlike k k' budget old old' [] = Unit {0}
RunsAlike k k' budget old old' (row ∷ rows) =
    (tick k budget old row).outcome ≢ outcome.Over →
    TicksAlike k k' budget old old' row
    × (goes_on (tick k budget old row).outcome ≡ true → RunsAlike k k' budget (tick k budget old row).state (tick k' budget old' row).state rows)

-- until a tick of the first kernel is over, no tick of the second one takes more units: for every budget and every list of rows
abbrev pub TakesNoMoreUnits : PlainKernel → PlainKernel → Type 0
TakesNoMoreUnits k k' = (budget : ℕ) (rows : List (List ℤ)) → RunsAlike k k' budget Fresh Fresh rows

abbrev pub FoldingSavesUnits : Type 0
FoldingSavesUnits = (k : PlainKernel) → TakesNoMoreUnits k (folded_kernel k)

-- ---- what stays

abbrev pub FoldingKeepsPaced : Type 0
FoldingKeepsPaced = (k : PlainKernel) → Paced k → Paced (folded_kernel k)

abbrev pub FoldingKeepsForm : Type 0
FoldingKeepsForm = (k : PlainKernel) → WellFormed k → WellFormed (folded_kernel k)
