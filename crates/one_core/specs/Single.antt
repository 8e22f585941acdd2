-- All threads of a code on one core, as callers see them.
use Rattle.std.specs.Prelude.{◌≡◌, Bool, true, Option, List}
use Rattle.forec_kernel.specs.Composed.{TickInput}
use Rattle.forec_kernel.specs.Engine.{Job}
use Rattle.forec_kernel.specs.Packed.{HasRoom}
use Rattle.thread_code.specs.declared.instruction.CodeParts.{CodeParts}
use Rattle.thread_code.specs.Plain.{PlainCode, plain_code}
use Rattle.thread_code.specs.Laws.{EachFits}
use Rattle.thread_code.specs.Valid.{of_shape}
use Rattle.combine_tree.specs.declared.packet.Packet.{Packet}
use Rattle.combine_tree.specs.Plain.{plain_packet}
use Rattle.core_machine.specs.declared.thread.Thread.{Thread}
use Rattle.tick_jobs.specs.Ready.{IsReady}
use Rattle.tick_jobs.specs.Ticks.{Ticking}
use Rattle.tick_jobs.specs.Ticks as ticks
use Rattle.one_core.specs.Seats.{Seated, HoldsThread, HasAllSeats}
use Rattle.one_core.specs.Resting.{AllRestAfter}

-- `threads`: each in its seat. `root`: the packet of thread 0, in a tick its job, between ticks its reply. `live`: each tick so far has paused
pub record Single : Type 0 where
  pub code : CodeParts
  pub threads : List (Option Thread)
  pub root : Packet
  pub live : Bool

abbrev pub single : Seated → Packet → Bool → Single
single v root live = record { code = v.code; threads = v.threads; root = root; live = live }

abbrev pub seated_in : Single → Seated
seated_in o = record { code = o.code; threads = o.threads }

-- the code whose threads they are
abbrev pub single_code : Single → PlainCode
single_code o = plain_code o.code

-- each tick so far has paused
abbrev pub single_is_live : Single → Bool
single_is_live o = o.live

-- what holds between ticks: each thread rests, and thread 0 can be given the job of the next tick where there is one
pub record IsSingle (o : Single) : Type 0 where
  pub fitted : HasAllSeats (seated_in o)
  pub worked : (jobs : List Job) × AllRestAfter (seated_in o) jobs
  pub room : HasRoom (of_shape (single_code o).shape) 0 (plain_packet o.root)
  pub ready : o.live ≡ true → (t : Thread) → HoldsThread (seated_in o) 0 t → IsReady t o.root.kind

-- ---- what was run

-- thread 0 was given these jobs by the ticks so far, and has replied to each
pub record HasRootJobs (o : Single) (jobs : List Job) : Type 0 where
  pub fit : EachFits (single_code o).shape 0 jobs
  pub worked : AllRestAfter (seated_in o) jobs

-- as what runs ticks
abbrev pub single_ticking : Single → Ticking
single_ticking o = record { code = single_code o; root = o.root; live = o.live; HasJobs = λ jobs. HasRootJobs o jobs }

-- these ticks were run, each with its row and its budget, as each kernel for which the code stands runs them
abbrev pub OneCoreHasRun : Single → List TickInput → Type 0
OneCoreHasRun o turns = ticks.HasRun (single_ticking o) turns
