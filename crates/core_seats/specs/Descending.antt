-- A thread is served together with the threads that it forks, where they are here.
use Rattle.std.specs.Prelude.{ℕ, suc, ◌≡◌, ◌<◌, ◌≤◌, length}
use Rattle.forec_kernel.specs.Packed.{HasRoom}
use Rattle.thread_code.specs.Valid.{of_shape}
use Rattle.combine_tree.specs.Plain.{plain_packet}
use Rattle.core_machine.specs.Threads.{Loaded, CanRun, HasReply}
use Rattle.core_seats.specs.declared.active.Active.{Active}
use Rattle.core_seats.specs.declared.round.Round.{Round}
use Rattle.core_seats.specs.Hung.{KeepsRope}
use Rattle.core_seats.specs.Keeping.{SchedulerState, code_in, KeepsBelow}
use Rattle.core_seats.specs.Waiting.{HasChild, IsWorking, IsWaiting, RestsOrWaits, IsVacant}

-- What stays where threads above t are served, or where `from` isn't t, those above `from` while thread t + 1 is at work: the threads up to t, their
-- branches' packets and the parents' ends of their mailboxes, the children's ends of the mailboxes below t; which ends are here; which seats are empty;
-- and that a thread rests or waits.
pub record Descends (t from : ℕ) (a b : SchedulerState) : Type 0 where
  pub leaves : KeepsBelow (suc t) t a b
  pub here : (j : ℕ) → HasChild a.mail j → HasChild b.mail j
  pub was_here : (j : ℕ) → HasChild b.mail j → HasChild a.mail j
  pub between : (j : ℕ) → from ≤ j → RestsOrWaits a j → RestsOrWaits b j
  pub vacant : (j : ℕ) → from ≤ j → IsVacant a (suc j) → IsVacant b (suc j)

-- a thread is out of its seat, with the packet of the job that it is at
pub record IsActive (s : SchedulerState) (x : Active) : Type 0 where
  pub inside : x.mailbox < length s.mail.ends
  pub number : x.thread.number ≡ suc x.mailbox
  pub loaded : Loaded (code_in s) x.thread
  pub room : HasRoom (of_shape (code_in s).shape) (suc x.mailbox) (plain_packet x.packet)

-- and it can run on
pub record IsRunning (s : SchedulerState) (x : Active) : Type 0 where
  pub active : IsActive s x
  pub working : IsWorking s x.thread
  pub running : CanRun x.thread

-- and it has its reply
pub record HasFinished (s : SchedulerState) (x : Active) : Type 0 where
  pub active : IsActive s x
  pub working : IsWorking s x.thread
  pub reply : HasReply x.thread

-- and it waits at a fork
pub record IsHeld (s : SchedulerState) (x : Active) : Type 0 where
  pub active : IsActive s x
  pub waiting : IsWaiting s x.thread

-- the same mailboxes, from the same one on
pub record KeepsRound (before after : Round) : Type 0 where
  pub own : after.own ≡ before.own
  pub next : after.next ≡ before.next
  pub rope : KeepsRope before.rope after.rope
