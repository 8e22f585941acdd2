-- Ticks, as the callers see them of what runs them.
use Rattle.std.specs.Prelude.{ℕ, ℤ, ◌≡◌, ◌≤◌, Bool, true, List, [], ◌∷◌, ◌++◌, length}
use Rattle.forec_base.specs.declared.limits.TheConstants.{MAX_BUDGET}
use Rattle.forec_kernel.specs.declared.shape.Outcome.{Outcome}
use Rattle.forec_kernel.specs.Shapes.{PlainKernel}
use Rattle.forec_kernel.specs.WellFormed.{WellFormed}
use Rattle.forec_kernel.specs.Ticks.{Fresh, tick, goes_on}
use Rattle.forec_kernel.specs.Engine.{Job}
use Rattle.forec_kernel.specs.Composed.{TickInput, tick_jobs, state_after}
use Rattle.thread_code.specs.Plain.{PlainCode}
use Rattle.thread_code.specs.Alone.{Stands}
use Rattle.combine_tree.specs.declared.packet.Packet.{Packet}
use Rattle.combine_tree.specs.declared.packet.PacketKind.TheVariants as kind
use Rattle.tick_jobs.specs.Jobs.{job_of}
use Rattle.tick_jobs.specs.Outcomes.{HasOutputs, LacksOutputs, IsOutcome}
use Rattle.tick_jobs.specs.Ready.{HoldsState}

-- What runs the threads of a code tick by tick, between two ticks. `root`: the packet of thread 0, blank before the first tick, later its last reply.
-- `live`: each tick so far has paused. `HasJobs`: the ticks so far gave thread 0 these jobs, and it has replied to each.
pub record Ticking : Type 1 where
  pub code : PlainCode
  pub root : Packet
  pub live : Bool
  pub HasJobs : List Job → Type 0

pub record HasTicked (m : Ticking) (k : PlainKernel) (turns : List TickInput) : Type 0 where
  pub jobs : m.HasJobs (tick_jobs k Fresh turns)
  pub keeps : m.live ≡ true → HoldsState (state_after k Fresh turns) m.root

-- these ticks were run, each with its row and its budget, as each kernel for which the code stands runs them
unfoldable pub HasRun : Ticking → List TickInput → Type 0
HasRun m turns = (k : PlainKernel) → WellFormed k → Stands m.code k → HasTicked m k turns

-- no tick was run
pub record RanNone (m : Ticking) : Type 0 where
  pub live : m.live ≡ true
  pub blank : m.root.kind ≡ kind.Blank
  pub turns : HasRun m []
  pub jobs : m.HasJobs []

-- a tick can be run: each one so far has paused, and there is a value for each input and a place for each output
pub record CanTick (m : Ticking) (row : List ℤ) (budget : ℕ) (values : List ℤ) : Type 0 where
  pub live : m.live ≡ true
  pub inputs : length row ≡ length m.code.shape.inputs
  pub outputs : length values ≡ length m.code.shape.outputs
  pub small : budget ≤ MAX_BUDGET

-- A tick with this row and this budget was run. Its outcome and its outputs are those of a reply that thread 0 of the code gives to the jobs of the ticks
-- so far, and that reply is in its packet; for each kernel for which the code stands they are the kernel's. At a trap and at `over` the outputs stay.
pub record RunsTick (a b : Ticking) (row : List ℤ) (budget : ℕ) (o : Outcome) (before after : List ℤ) : Type 0 where
  pub code : b.code ≡ a.code
  pub live : b.live ≡ goes_on o
  pub turns : (turns : List TickInput) → HasRun a turns → HasRun b (turns ++ record { row = row; budget = budget } ∷ [])
  pub outcome : (k : PlainKernel) (turns : List TickInput) → WellFormed k → Stands a.code k → HasRun a turns
      → o ≡ (tick k budget (state_after k Fresh turns) row).outcome
  pub outputs : (k : PlainKernel) (turns : List TickInput) → WellFormed k → Stands a.code k → HasRun a turns
      → HasOutputs o → after ≡ (tick k budget (state_after k Fresh turns) row).outputs
  pub stay : LacksOutputs o → after ≡ before
  pub jobs : (jobs : List Job) → a.HasJobs jobs → b.HasJobs (jobs ++ job_of a.code.shape a.root row budget ∷ [])
  pub reply : (jobs : List Job) → a.HasJobs jobs → IsOutcome a.code (jobs ++ job_of a.code.shape a.root row budget ∷ []) b.root o after
