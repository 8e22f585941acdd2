-- What a tick is for who runs kernels, and how a run by it begins.
use Rattle.std.specs.Prelude.{◌≡◌, ◌++◌, ◌∷◌, [], List, Bool, true}
use Rattle.forec_kernel.specs.Composed.{TickInput, state_after}
use Rattle.forec_kernel.specs.Shapes.{PlainShape, PlainKernel}
use Rattle.forec_kernel.specs.Ticks.{Fresh, Tick, tick}
use Rattle.forec_kernel.specs.declared.shape.Outcome.{Outcome}
use Rattle.tick_jobs.specs.Outcomes.{HasOutputs}
use Rattle.trace_rows.specs.Trace.{Row}
use Rattle.trace_ticks.specs.declared.status.Status.{Status}

-- the tick of a kernel after these ticks
abbrev pub tick_after : PlainKernel → List TickInput → TickInput → Tick
tick_after k turns turn = tick k turn.budget (state_after k Fresh turns) turn.row

-- One tick more was run: its outcome, and the outputs' values where it has any. `Old` and `New` say which kernels are run, and which ticks
-- of them were.
pub record RunsOnce (Old New : PlainKernel → List TickInput → Type 0) (turn : TickInput) (values : Row) (o : Outcome) : Type 0 where
  pub outcome : (k : PlainKernel) (turns : List TickInput) → Old k turns → o ≡ (tick_after k turns turn).outcome
  pub outputs : (k : PlainKernel) (turns : List TickInput) → Old k turns → HasOutputs o → values ≡ (tick_after k turns turn).outputs
  pub follows : (k : PlainKernel) (turns : List TickInput) → Old k turns → New k (turns ++ turn ∷ [])

-- a kernel of this shape is run, and no tick of it was yet
pub record Starts (shape : PlainShape) (Follows : PlainKernel → List TickInput → Type 0) (k : PlainKernel) : Type 0 where
  pub shaped : k.shape ≡ shape
  pub fresh : Follows k []

-- this was done with each kernel that is run from its start
abbrev pub DidFromStart : PlainShape → (PlainKernel → List TickInput → Type 0) → (PlainKernel → Status → Type 0) → Status → Type 0
DidFromStart shape Follows Did end = (k : PlainKernel) → Starts shape Follows k → Did k end

-- a run can begin: what it needs of the shape is there, the program goes on, and each tick has all the memory that it needs
pub record CanLead (Can : PlainShape → Type 0) (shape : PlainShape) (Live : Type 0) (is_ready : Bool) : Type 0 where
  pub can : Can shape
  pub live : Live
  pub ready : is_ready ≡ true
