-- The ropes of the cores.
use Rattle.std.specs.Prelude.{◌≡◌, ◌≢◌, ℕ, zero, suc, ◌-◌, ◌^◌, ◌<◌, ◌≤◌, ◌==◌, min, All, get_or, slice_get, slice_set, Option, None, Some, List, [], ◌∷◌, ◌++◌, length, map, true, false, Bool}
use Rattle.crossbeam_queue.specs.declared.array_queue.Doing.{Doing}
use Rattle.crossbeam_queue.specs.declared.array_queue.Slotted.{Slotted}
use Rattle.crossbeam_queue.specs.Fifo.{Held}
use Rattle.crossbeam_queue.specs.Passes.{Pass, IsPassOf, ruled_capacity, view}
use Rattle.thread_code.specs.declared.instruction.CodeParts.{CodeParts}
use Rattle.thread_code.specs.Plain.{plain_code}
use Rattle.core_alloc.specs.Places.{Places}
use Rattle.core_bells.specs.declared.belfry.LooseRope.{LooseRope}
use Rattle.core_bells.specs.declared.hints.HintLog.{HintLog}
use Rattle.core_bells.specs.Hints.{Accounts, Knows, after_pop, after_push, new_log, total}
use Rattle.core_bells.specs.Rooms.{mailbox_ends, rooms_of_first}

-- The rope of a core: the placement for which it was made; at each core, how many hints its queue has room for, and the log of the
-- rope's pass there.
pub record RopeState : Type 0 where
  pub placement : Places
  pub core : ℕ
  pub rooms : List ℕ
  pub logs : List HintLog

-- ---- ropes that did nothing

-- a rope may pop from its own core's queue alone
abbrev pub new_logs : ℕ → ℕ → List HintLog
new_logs core zero = []
new_logs core (suc n) = new_logs core n ++ new_log (n == core) ∷ []

abbrev pub rooms_of : CodeParts → Places → List ℕ
rooms_of code placement = rooms_of_first (mailbox_ends (plain_code code).shape placement.places) placement.cores

abbrev pub new_rope : CodeParts → Places → ℕ → RopeState
new_rope code placement core = record { placement = placement; core = core; rooms = rooms_of code placement; logs = new_logs core placement.cores }

-- of the first n cores
abbrev pub new_ropes : CodeParts → Places → ℕ → List RopeState
new_ropes code placement zero = []
new_ropes code placement (suc n) = new_ropes code placement n ++ new_rope code placement n ∷ []

-- ---- what the calls of a rope do

-- the hints that a rope pushed
abbrev pub pushed_hints : List HintLog → ℕ
pushed_hints logs = total (λ v. length v.pushed) logs

abbrev pub log_at : RopeState → ℕ → HintLog
log_at r core = get_or r.logs core (new_log false)

abbrev pub own_log : RopeState → HintLog
own_log r = log_at r r.core

-- a hint was pushed to a core's queue, if it fitted
abbrev pub after_ring : ℕ → ℕ → Bool → RopeState → RopeState
after_ring core hint fits r = record r { logs = slice_set r.logs core (after_push fits hint (log_at r core)) }

-- a hint, if there was one, was popped from its own core's
abbrev pub after_rope_pop : Option ℕ → RopeState → RopeState
after_rope_pop hint r = record r { logs = slice_set r.logs r.core (after_pop hint (own_log r)) }

-- the same rope, later: what it pushed to each queue, and popped, it still has
pub record IsSameRope (r q : RopeState) : Type 0 where
  pub placement : q.placement ≡ r.placement
  pub core : q.core ≡ r.core
  pub rooms : q.rooms ≡ r.rooms
  pub pushed : pushed_hints r.logs ≤ pushed_hints q.logs

-- at one moment the core's queue held as many hints as it has room for
abbrev pub WasFull : ℕ → RopeState → Type 0
WasFull core r = Held (get_or r.rooms core 0) (Knows (log_at r core))

-- a hint was pushed to a core's queue, or that was full at one moment
pub record HasRung (core hint : ℕ) (r q : RopeState) : Type 0 where
  pub fits : Bool
  pub state : q ≡ after_ring core hint fits r
  pub full : fits ≡ false → WasFull core r

-- a hint was pushed to the queue of the thread's core, if that is another core and it fitted; a thread that has no place has no queue
pub record HasHinted (thread hint : ℕ) (r q : RopeState) : Type 0 where
  pub other : (core : ℕ) → slice_get r.placement.places thread ≡ Some core → core ≢ r.core → HasRung core hint r q
  pub own : slice_get r.placement.places thread ≡ Some r.core → q ≡ r
  pub else : slice_get r.placement.places thread ≡ None → q ≡ r

-- at one moment the own core's queue held no hint, and whatever the rope pushed there it has popped
abbrev pub WasEmpty : RopeState → Type 0
WasEmpty r = Held 0 (Accounts (own_log r))

abbrev pub capped_count : ℕ → ℕ
capped_count n = min n (2 ^ 64 - 1)

-- the placement of so many cores, with these places
abbrev pub placed_on : ℕ → List ℕ → Places
placed_on cores places = record { cores = cores; places = places }

-- ---- passes of the queues of all cores

abbrev pub logs_of : List (Pass ℕ HintLog) → List HintLog
logs_of passes = map view passes

-- the pass of the core's own queue may pop
abbrev pub MayPop : ℕ → List (Pass ℕ HintLog) → Type 0
MayPop core passes = (p : Pass ℕ HintLog) → slice_get passes core ≡ Some p → (view p).may_pop ≡ true

module _ {Q A : Type 0} where
  -- a pass of each queue
  pub record ArePasses (queues : List (Slotted (Option ℕ) (Doing ℕ HintLog) Q A)) (passes : List (Pass ℕ HintLog)) : Type 0 where
    pub long : length passes ≡ length queues
    pub each : (k : ℕ) (q : Slotted (Option ℕ) (Doing ℕ HintLog) Q A) (p : Pass ℕ HintLog) → slice_get queues k ≡ Some q → slice_get passes k ≡ Some p → IsPassOf q p

  -- of which those from this core's on are the ones that may pop
  pub record AreFirsts (core : ℕ) (queues : List (Slotted (Option ℕ) (Doing ℕ HintLog) Q A)) (passes : List (Pass ℕ HintLog)) : Type 0 where
    pub fit : ArePasses queues passes
    pub first : (k : ℕ) (p : Pass ℕ HintLog) → core ≤ k → slice_get passes k ≡ Some p → view p ≡ new_log true

  -- the passes of a core's rope
  pub record RopeFitsCore (placement : Places) (queues : List (Slotted (Option ℕ) (Doing ℕ HintLog) Q A)) (core : ℕ) (passes : List (Pass ℕ HintLog)) : Type 0 where
    pub cores : length queues ≡ placement.cores
    pub core_below : core < placement.cores
    pub placed : All (λ c. c < placement.cores) placement.places
    pub fit : ArePasses queues passes
    pub own : MayPop core passes

  -- the same, and so many hints were pushed
  abbrev pub FitsRope : Places → List (Slotted (Option ℕ) (Doing ℕ HintLog) Q A) → ℕ → List (Pass ℕ HintLog) → ℕ → Type 0
  FitsRope placement queues core passes pushed = RopeFitsCore placement queues core passes × (pushed ≡ capped_count (pushed_hints (logs_of passes)))

  abbrev pub rope_state : Places → List (Slotted (Option ℕ) (Doing ℕ HintLog) Q A) → ℕ → List (Pass ℕ HintLog) → RopeState
  rope_state placement queues core passes = record { placement = placement; core = core; rooms = map ruled_capacity queues; logs = logs_of passes }

  -- every rope fits the queues, and pushed no hint
  abbrev pub RopesFit : Places → List (Slotted (Option ℕ) (Doing ℕ HintLog) Q A) → List LooseRope → Type 0
  RopesFit placement queues ropes = (i : ℕ) (r : LooseRope) → slice_get ropes i ≡ Some r → RopeFitsCore placement queues r.core r.passes.items × (pushed_hints (logs_of r.passes.items) ≡ 0)

  abbrev pub states_of : Places → List (Slotted (Option ℕ) (Doing ℕ HintLog) Q A) → List LooseRope → List RopeState
  states_of placement queues ropes = map (λ r. rope_state placement queues r.core r.passes.items) ropes

  -- the queues are those of the code's mailboxes on the placement's cores
  pub record AreQueues (code : CodeParts) (placement : Places) (queues : List (Slotted (Option ℕ) (Doing ℕ HintLog) Q A)) : Type 0 where
    pub cores : length queues ≡ placement.cores
    pub rooms : map ruled_capacity queues ≡ rooms_of code placement
    pub placed : All (λ c. c < placement.cores) placement.places

  -- on whatever placement these are the queues, the ropes of the first so many cores fit them
  abbrev pub FitFirst : List (Slotted (Option ℕ) (Doing ℕ HintLog) Q A) → ℕ → List LooseRope → Type 0
  FitFirst queues cores ropes = (code : CodeParts) (placement : Places) → AreQueues code placement queues → cores ≤ placement.cores → RopesFit placement queues ropes

  -- and they are new
  abbrev pub AreNewFirst : List (Slotted (Option ℕ) (Doing ℕ HintLog) Q A) → ℕ → List LooseRope → Type 0
  AreNewFirst queues cores ropes = (code : CodeParts) (placement : Places) → AreQueues code placement queues → states_of placement queues ropes ≡ new_ropes code placement cores
