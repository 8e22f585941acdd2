-- A host, as its callers see it.
use Rattle.std.specs.Prelude.{ℕ, ◌≡◌, ◌<◌, Bool, true, Option, List, length}
use Rattle.combine_tree.specs.declared.packet.Packet.{Packet}
use Rattle.thread_code.specs.declared.instruction.CodeParts.{CodeParts}
use Rattle.thread_code.specs.Plain.{PlainCode, plain_code}
use Rattle.core_bells.specs.Ropes.{RopeState}
use Rattle.core_seats.specs.declared.seat.Seat.{Seat}
use Rattle.core_seats.specs.Posts.{Mail}
use Rattle.core_seats.specs.Keeping.{SchedulerState, Quiet}
use Rattle.core_seats.specs.Loads.{is_on}
use Rattle.core_seats.specs.Changes.{Grown}
use Rattle.core_seats.specs.Hung.{KeepsRope}
use Rattle.core_seats.specs.Kept.{Standing}

-- `places`: the core of each thread. `cores`: those of this host. `mail`: what went through its mailboxes. `seats`: each thread, with the job in its hand.
-- `hands`: the packets in the parents' hands. `root`: the packet of thread 0, in a tick its job, between ticks its reply. `live`: each tick so far has paused.
-- `rope`: what hangs on the host, to wait and to wake others by
pub record Hosted : Type 0 where
  pub code : CodeParts
  pub places : List ℕ
  pub cores : List ℕ
  pub mail : Mail
  pub seats : List Seat
  pub hands : List (Option Packet)
  pub root : Packet
  pub live : Bool
  pub rope : Option RopeState

abbrev pub hosted : SchedulerState → List ℕ → Packet → Bool → Option RopeState → Hosted
hosted s cores root live rope =
    record { code = s.code; places = s.places; cores = cores; mail = s.mail; seats = s.seats; hands = s.hands; root = root; live = live; rope = rope }

abbrev pub state_in : Hosted → SchedulerState
state_in h = record { code = h.code; places = h.places; mail = h.mail; seats = h.seats; hands = h.hands }

-- the code whose threads the host has
abbrev pub code_of : Hosted → PlainCode
code_of h = plain_code h.code

-- each tick so far has paused
abbrev pub is_live : Hosted → Bool
is_live h = h.live

-- the thread's core is one of the host's
abbrev pub is_here : Hosted → ℕ → Bool
is_here h t = is_on h.places h.cores t

-- the host has all threads, its port tells whose turn it is, and nothing is under way
pub record IsWhole (h : Hosted) : Type 0 where
  pub tells : h.mail.tells ≡ true
  pub all : (t : ℕ) → t < length (code_of h).threads → is_here h t ≡ true
  pub quiet : (k : ℕ) → k < length h.mail.ends → Quiet (state_in h) k

-- what no serving of the host changes
abbrev pub standing : Hosted → Standing
standing h = record { code = h.code; places = h.places; cores = h.cores }

-- the same host, later: what went through its mailboxes it still has, and its rope, if there is one, is the same
pub record IsSameHost (a b : Hosted) : Type 0 where
  pub code : b.code ≡ a.code
  pub places : b.places ≡ a.places
  pub cores : b.cores ≡ a.cores
  pub grown : Grown a.mail b.mail
  pub rope : KeepsRope a.rope b.rope
