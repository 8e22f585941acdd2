-- Steps under an allowance of units.
use Rattle.std.specs.Prelude.{ℕ, ◌<◌, ◌≡◌, ◌+◌, ◌-◌, ◌==◌, ℤ, Bool, true, false, cond, Option, Some, None, List, map, slice_set}
use Rattle.std.specs.declared.vec.Vec.{Vec}
use Rattle.std.specs.declared.alloc.Global.{Global}
use Rattle.std.specs.declared.result.Result.{Result}
use Rattle.std.specs.declared.result.Result.TheVariants.{Ok, Err}
use Rattle.forec_kernel.specs.declared.terms.Spot.TheVariants as spot
use Rattle.forec_kernel.specs.declared.shape.VarCopy.{VarCopy}
use Rattle.forec_kernel.specs.declared.shape.KernelParts.{KernelParts}
use Rattle.forec_kernel.specs.Shapes.{plain_kernel}
use Rattle.forec_kernel.specs.Terms.{Expr, Stmt}
use Rattle.forec_kernel.specs.Values.{Value, cleared}
use Rattle.forec_kernel.specs.Texts.{RunningText, Loop, Done, Run, Then, Turning, Resting, Fork, Held, Watch, Last, Thread, Threads, no_threads, child, first_running, is_running, some_running, all_over, first_trap, ended_are_gone, put_copy}
use Rattle.forec_kernel.specs.Steps as plain
use Rattle.forec_kernel.specs.Steps.{Path, Move, Moves, Traps, move_units, move_with, thread_after, Owner, evaluated, statement_move, loop_move, joined, text_move, Arguments, Ready, Refused, SteppedChildren}
use Rattle.forec_kernel.specs.Ticks.{Going}
use Rattle.forec_kernel.specs.Combining.{Cost, Costs, Fails}
use Rattle.running_texts.specs.declared.meter.Halt.{Halt}
use Rattle.running_texts.specs.declared.meter.Halt.TheVariants.{Trapped, Over, OutOfMemory}
use Rattle.running_texts.specs.declared.evaluation.ThreadValues.{ThreadValues}
use Rattle.running_texts.specs.Metered.{Paid, ResultKind, IsMetered, value_kind}
use Rattle.running_threads.specs.Moves.{next_text}
use Rattle.running_steps.specs.declared.moving.Step.{Step}
use Rattle.running_steps.specs.declared.moving.Step.TheVariants.{Finishes, Halts, Sets, SetsAt, Puts, Clears, Joins, Becomes}

-- what a step of a focus starts from: the variables that the thread uses, its words and copies, and the focus
pub record Origin : Type 0 where
  pub uses : List ℕ
  pub words : List ℤ
  pub copies : List VarCopy
  pub text : RunningText

abbrev pub origin : List ℕ → List ℤ → List VarCopy → RunningText → Origin
origin uses words copies R = record { uses = uses; words = words; copies = copies; text = R }

abbrev pub origin_in : ThreadValues → RunningText → Origin
origin_in v R = origin v.uses.now v.words.now v.copies.now R

-- what is left of a fork whose copies are combined
abbrev pub rested : RunningText → RunningText
rested (Fork cs) = cond (all_over cs) Done (Held (ended_are_gone cs))
rested R = R

-- a step, at so many units
abbrev pub leads : Origin → Step → ℕ → Move
leads s Finishes u = plain.Finished
leads s Halts u = plain.Halts
leads s (Sets (spot.Local slot) n) u = Moves Done (slice_set s.words slot n) s.copies u
leads s (Sets (spot.Variable v) n) u = Moves Done s.words (put_copy s.uses s.copies v (record { value = n; modified = true })) u
leads s (SetsAt at n) u = Moves Done (slice_set s.words at n) s.copies u
leads s (Puts v n) u = Moves Done s.words (put_copy s.uses s.copies v (record { value = n; modified = true })) u
leads s (Clears slot n) u = Moves Done (cleared s.words slot n) s.copies u
leads s (Joins copies) u = Moves (rested s.text) s.words copies.items u
leads s (Becomes next) u = Moves (next_text next) s.words s.copies u

pub record IsPaidStep (s : Origin) (old new : ℕ) (a : Step) (m : Move) : Type 0 where
  pub units : ℕ
  pub is : m ≡ leads s a units
  pub left : new + move_units m ≡ old

abbrev pub MovedBy : Origin → ℕ → ℕ → Result Step Halt → Move → Type 0
MovedBy s old new (Ok a) m = IsPaidStep s old new a m
MovedBy s old new (Err (Trapped place trap)) m = Paid old new m (Traps place trap)
MovedBy s old new (Err Over) m = old < move_units m
MovedBy s old new (Err OutOfMemory) m = Unit {0}

-- What a step under an allowance answers: the step or the trap, with its units paid; or Over exactly where the units exceed the allowance.
pub record IsMoved (s : Origin) (old new : ℕ) (result : Result Step Halt) (m : Move) : Type 0 where
  pub by : MovedBy s old new result m

-- ---- steps of a thread with these values

abbrev pub owner_in : KernelParts → ThreadValues → Owner
owner_in k v = record { kernel = plain_kernel k; uses = v.uses.now }

abbrev pub value_in : KernelParts → ThreadValues → Expr → Value
value_in k v e = evaluated (owner_in k v) v.words.now v.copies.now e

-- a statement's step, whatever text the statement is
abbrev pub StatementMoved : KernelParts → ThreadValues → Stmt → ℕ → ℕ → Result Step Halt → Type 0
StatementMoved k v s old new result =
    (R : RunningText) → IsMoved (origin_in v R) old new result (statement_move (owner_in k v) v.words.now v.copies.now s)

-- the step of a loop in progress
abbrev pub LoopMoved : KernelParts → ThreadValues → Loop → ℕ → ℕ → Result Step Halt → Type 0
LoopMoved k v loop old new result =
    (R : RunningText) → IsMoved (origin_in v R) old new result (loop_move (owner_in k v) v.words.now v.copies.now loop)

-- the step of a fork none of whose children is running
abbrev pub ForkMoved : KernelParts → ThreadValues → Threads → ℕ → ℕ → Result Step Halt → Type 0
ForkMoved k v cs old new result =
    IsMoved (origin_in v (Fork cs)) old new result (joined (owner_in k v) v.words.now v.copies.now cs (first_trap cs))

-- the step of a focus, along every path
abbrev pub FocusMoved : KernelParts → ThreadValues → RunningText → ℕ → ℕ → Result Step Halt → Type 0
FocusMoved k v R old new result =
    (path : Path) → IsMoved (origin_in v R) old new result (text_move (plain_kernel k) path v.uses.now v.words.now v.copies.now R)

-- the step after a part: what is done with the part's number, under what the part left of the allowance
abbrev pub IsMoveAfter : Result ℤ Halt → ℕ → ℕ → Result Step Halt → (Origin → ℤ → Move) → Type 0
IsMoveAfter part mid new result go =
    (s : Origin) (old : ℕ) (v : Value) → IsMetered value_kind old mid part v → IsMoved s old new result (move_with v (go s))

-- ---- the arguments of the branches of a `par`

abbrev pub lists_units : Arguments → ℕ
lists_units (Ready ls u) = u
lists_units (Refused place trap u) = u

abbrev pub lists : ResultKind (Vec (Vec ℤ Global) Global) Arguments
lists = record { gives = λ v u. Ready (map (λ w. w.items) v.items) u; stops = Refused; units = lists_units }

-- ---- threads and children, changed in place

-- a thread after a move, with the move's units
abbrev pub after_move : Thread → Move → Going
after_move t m = record { thread = thread_after t m; units = move_units m }

abbrev pub StandsBy : {A : Type 0} → ℕ → ℕ → Thread → Result A Halt → Going → Type 0
StandsBy old new t (Ok x) g = (t ≡ g.thread) × (new + g.units ≡ old)
StandsBy old new t (Err (Trapped place trap)) g = ⊥
StandsBy old new t (Err Over) g = old < g.units
StandsBy old new t (Err OutOfMemory) g = Unit {0}

-- the thread that it came to, with its units paid; or Over exactly where they exceed the allowance
pub record IsThread {A : Type 0} (old new : ℕ) (t : Thread) (result : Result A Halt) (g : Going) : Type 0 where
  pub by : StandsBy old new t result g

abbrev pub SteppedBy : {A : Type 0} → ℕ → ℕ → Threads → Result A Halt → SteppedChildren → Type 0
SteppedBy old new cs (Ok x) s = (cs ≡ s.children) × (new + s.units ≡ old)
SteppedBy old new cs (Err (Trapped place trap)) s = ⊥
SteppedBy old new cs (Err Over) s = old < s.units
SteppedBy old new cs (Err OutOfMemory) s = Unit {0}

-- the same of children
pub record AreStepped {A : Type 0} (old new : ℕ) (cs : Threads) (result : Result A Halt) (s : SteppedChildren) : Type 0 where
  pub by : SteppedBy old new cs result s

-- a focus that is a fork one of whose children is running
abbrev pub running_below : RunningText → Bool
running_below (Fork cs) = some_running cs
running_below R = false

abbrev pub ForkedBy : {A : Type 0} → ℕ → ℕ → List ℤ → List VarCopy → RunningText → Result A Halt → Move → Type 0
ForkedBy old new w c R (Ok x) m = Paid old new m (Moves R w c)
ForkedBy old new w c R (Err (Trapped place trap)) m = ⊥
ForkedBy old new w c R (Err Over) m = old < move_units m
ForkedBy old new w c R (Err OutOfMemory) m = Unit {0}

-- the focus that a step of one of its children gives
pub record IsChildStep {A : Type 0} (old new : ℕ) (w : List ℤ) (c : List VarCopy) (R : RunningText) (result : Result A Halt) (m : Move) : Type 0 where
  pub by : ForkedBy old new w c R result m

-- a place among children, or the leftmost running one
abbrev pub place_or_first : Option ℕ → Threads → ℕ
place_or_first None cs = first_running cs
place_or_first (Some i) cs = i

-- the first child is the one at the place
abbrev pub first_is_here : Option ℕ → Threads → Bool
first_is_here None no_threads = false
first_is_here None (child t R w c st rest) = is_running st
first_is_here (Some i) cs = i == 0

-- the place among the children after the first
abbrev pub place_behind : Option ℕ → Option ℕ
place_behind None = None
place_behind (Some i) = Some (i - 1)

-- ---- joins

abbrev pub cost_units : Cost → ℕ
cost_units (Costs u) = u
cost_units (Fails place trap u) = u

pub record Joined (old new : ℕ) (given joined : List VarCopy) (cost : Cost) : Type 0 where
  pub units : ℕ
  pub is : cost ≡ Costs units
  pub copies : given ≡ joined
  pub left : new + units ≡ old

abbrev pub JoinedBy : ℕ → ℕ → Result (Vec VarCopy Global) Halt → List VarCopy → Cost → Type 0
JoinedBy old new (Ok v) joined cost = Joined old new v.items joined cost
JoinedBy old new (Err (Trapped place trap)) joined cost = Paid old new cost (Fails place trap)
JoinedBy old new (Err Over) joined cost = old < cost_units cost
JoinedBy old new (Err OutOfMemory) joined cost = Unit {0}

-- What combining answers: the parent's copies, with the units of the calls paid; or their first trap; or Over exactly where they exceed the allowance.
pub record CombiningAnswers (old new : ℕ) (result : Result (Vec VarCopy Global) Halt) (joined : List VarCopy) (cost : Cost) : Type 0 where
  pub by : JoinedBy old new result joined cost
