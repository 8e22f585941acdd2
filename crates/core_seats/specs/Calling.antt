-- The branches of a fork are told their jobs and do them, one after the other.
use Rattle.std.specs.Prelude.{ℕ, suc, ◌≡◌, ◌<◌, ◌≤◌, Bool, true, false, Some, List, [], ◌++◌, length, slice_get, take, drop}
use Rattle.forec_kernel.specs.Shapes.{PlainShape}
use Rattle.forec_kernel.specs.Engine.{Reply, Written, Answered, pair_up}
use Rattle.core_machine.specs.declared.thread.Thread.{Thread}
use Rattle.core_machine.specs.Forks.{jobs_at}
use Rattle.copy_slots.specs.Ports.{sent}
use Rattle.core_seats.specs.Posts.{Mail}
use Rattle.tick_jobs.specs.Branches.{IsBranchOf}
use Rattle.core_seats.specs.Keeping.{SchedulerState, code_in, KeepsBelow, LacksPacket, HasHeard}
use Rattle.core_seats.specs.Moving.{ChangesPacket, HasSent, HasGot, HasLooked}
use Rattle.core_seats.specs.Descending.{Descends}
use Rattle.core_seats.specs.Waiting.{HasTold, HasChild, IsGathering, HasReplies, RestsOrWaits, IsVacant}

-- What stays where the branches of thread t's fork are told jobs, served and heard: the threads up to t, the packets and the parents' ends of the
-- branches of those below it, the children's ends of the mailboxes below t; which ends are here; which later seats are empty; and that a later thread rests or
-- waits.
pub record ServesFork (t : ℕ) (a b : SchedulerState) : Type 0 where
  pub leaves : KeepsBelow t t a b
  pub seat : slice_get b.seats t ≡ slice_get a.seats t
  pub here : (j : ℕ) → HasChild a.mail j → HasChild b.mail j
  pub was_here : (j : ℕ) → HasChild b.mail j → HasChild a.mail j
  pub between : (j : ℕ) → t ≤ j → RestsOrWaits a j → RestsOrWaits b j
  pub vacant : (j : ℕ) → t ≤ j → IsVacant a (suc j) → IsVacant b (suc j)

-- a job was sent to a branch of thread t
pub record HasSentMore (s : PlainShape) (t : ℕ) (before after : Mail) : Type 0 where
  pub mailbox : ℕ
  pub mine : IsBranchOf s t mailbox
  pub more : length (sent before mailbox) < length (sent after mailbox)

-- the k-th job of the thread's fork was sent through mailbox m, the branch was served where it is here, and then its reply was looked for
pub record HasCalled (a b : SchedulerState) (h : Thread) (k m : ℕ) (replied : Bool) : Type 0 where
  pub told : SchedulerState
  pub served : SchedulerState
  pub sends : ChangesPacket m a told
  pub lacks : LacksPacket told m
  pub job : (w : Written) → slice_get (jobs_at (code_in a) h) k ≡ Some w → HasSent a told m w.job
  pub serves : Descends m m told served
  pub looks : ChangesPacket m served b
  pub got : replied ≡ true → HasGot served b m
  pub missed : replied ≡ false → HasLooked served b m

-- Beside these pairs, the first k branches of the thread's fork were told their jobs there. The first of them have replied by these, which are in hand, and the
-- jobs of the others are out; where `replied` is true, none is.
pub record IsCalling (s : SchedulerState) (h : Thread) (pairs : List Answered) (k : ℕ) (replied : Bool) : Type 0 where
  pub replies : List Reply
  pub within : length replies ≤ k
  pub all : replied ≡ true → length replies ≡ k
  pub heard : (i number : ℕ) (r : Reply) → slice_get h.branches.numbers i ≡ Some number → slice_get replies i ≡ Some r → HasHeard s number r
  pub told : HasTold s h.number (pairs ++ pair_up (jobs_at (code_in s) h) replies) (drop (length replies) (take k (jobs_at (code_in s) h)))

-- the thread was at its fork beside some pairs, and is there with all jobs told; where `replied` is true, with all replies in hand
pub record HasServedFork (a b : SchedulerState) (h : Thread) (replied : Bool) : Type 0 where
  pub stays : ServesFork h.number a b
  pub gathering : (pairs : List Answered) → HasTold a h.number pairs [] → IsGathering b h pairs
  pub replies : replied ≡ true → (pairs : List Answered) → HasTold a h.number pairs [] → HasReplies b h pairs
  pub sent : HasSentMore (code_in a).shape h.number a.mail b.mail
