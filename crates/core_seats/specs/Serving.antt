-- What serving one mailbox leaves alone.
use Rattle.std.specs.Prelude.{ℕ, suc, ◌≡◌, ◌≢◌, ◌<◌, true, false, length, slice_get}
use Rattle.copy_slots.specs.Ports.{taken, answered, parent_at, child_at, ChildIs}
use Rattle.core_seats.specs.Posts.{Mail}
use Rattle.tick_jobs.specs.Branches.{IsBranchOf}
use Rattle.core_seats.specs.Changes.{Grown, IsIdle}
use Rattle.core_seats.specs.Keeping.{SchedulerState, code_in, KeepsPort, Quiet}
use Rattle.core_seats.specs.Waiting.{HasChild, RestsOrWaits, IsVacant}

-- all but the parent's ends and hands of the branches of thread t
pub record ChangesBranches (t : ℕ) (a b : SchedulerState) : Type 0 where
  pub code : b.code ≡ a.code
  pub places : b.places ≡ a.places
  pub alike : KeepsPort a.mail b.mail
  pub grown : Grown a.mail b.mail
  pub seats : b.seats ≡ a.seats
  pub children : (j : ℕ) → child_at b.mail.ends j ≡ child_at a.mail.ends j
  pub parents : (j : ℕ) → (IsBranchOf (code_in a).shape t j → ⊥) → parent_at b.mail.ends j ≡ parent_at a.mail.ends j
  pub hands : (j : ℕ) → (IsBranchOf (code_in a).shape t j → ⊥) → slice_get b.hands j ≡ slice_get a.hands j
  pub hand_count : length b.hands ≡ length a.hands

-- all but these, the seat of thread k + 1 and the child's end of mailbox k
pub record Touches (k : ℕ) (a b : SchedulerState) : Type 0 where
  pub code : b.code ≡ a.code
  pub places : b.places ≡ a.places
  pub alike : KeepsPort a.mail b.mail
  pub grown : Grown a.mail b.mail
  pub seats : (j : ℕ) → j ≢ suc k → slice_get b.seats j ≡ slice_get a.seats j
  pub seat_count : length b.seats ≡ length a.seats
  pub children : (j : ℕ) → j ≢ k → child_at b.mail.ends j ≡ child_at a.mail.ends j
  pub parents : (j : ℕ) → (IsBranchOf (code_in a).shape (suc k) j → ⊥) → parent_at b.mail.ends j ≡ parent_at a.mail.ends j
  pub hands : (j : ℕ) → (IsBranchOf (code_in a).shape (suc k) j → ⊥) → slice_get b.hands j ≡ slice_get a.hands j
  pub hand_count : length b.hands ≡ length a.hands

-- all but the words that the child's end of mailbox k has loaded
pub record OnlyLooks (k : ℕ) (a b : SchedulerState) : Type 0 where
  pub code : b.code ≡ a.code
  pub seats : b.seats ≡ a.seats
  pub hands : b.hands ≡ a.hands
  pub alike : KeepsPort a.mail b.mail
  pub parents : (j : ℕ) → parent_at b.mail.ends j ≡ parent_at a.mail.ends j
  pub children : (j : ℕ) → j ≢ k → child_at b.mail.ends j ≡ child_at a.mail.ends j
  pub taken : taken b.mail k ≡ taken a.mail k
  pub answered : answered b.mail k ≡ answered a.mail k
  pub child : ChildIs a.mail k false → ChildIs b.mail k false

-- there was nothing to do for thread k + 1
pub record HasMissed (k : ℕ) (a b : SchedulerState) : Type 0 where
  pub idle : IsIdle (code_in a).shape a.mail b.mail k
  pub answered : answered b.mail k ≡ answered a.mail k

-- nothing was done: no reply was sent, and where there was nothing to do for a thread there still is not
pub record AllMissed (a b : SchedulerState) : Type 0 where
  pub answered : (k : ℕ) → answered b.mail k ≡ answered a.mail k
  pub still : (before : Mail) (k : ℕ) → Grown before a.mail → IsIdle (code_in a).shape before a.mail k → IsIdle (code_in a).shape before b.mail k

-- Thread 0 stays in its seat, or out of it, and each other thread rests, or waits at a fork, if it did; an empty seat stays empty.
pub record KeepsOthers (a b : SchedulerState) : Type 0 where
  pub code : b.code ≡ a.code
  pub places : b.places ≡ a.places
  pub alike : KeepsPort a.mail b.mail
  pub grown : Grown a.mail b.mail
  pub seat : slice_get b.seats 0 ≡ slice_get a.seats 0
  pub seat_count : length b.seats ≡ length a.seats
  pub hand_count : length b.hands ≡ length a.hands
  pub here : (j : ℕ) → HasChild a.mail j → HasChild b.mail j
  pub was_here : (j : ℕ) → HasChild b.mail j → HasChild a.mail j
  pub between : (j : ℕ) → RestsOrWaits a j → RestsOrWaits b j
  pub vacant : (j : ℕ) → IsVacant a (suc j) → IsVacant b (suc j)

-- What serving some mailboxes keeps: also the ends of thread 0's branches and their packets in its hand; and where both ends of each mailbox
-- are there, that nothing is under way.
pub record KeepsServing (a b : SchedulerState) : Type 0 where
  pub others : KeepsOthers a b
  pub open others use *
  pub root : (j : ℕ) → IsBranchOf (code_in a).shape 0 j → parent_at b.mail.ends j ≡ parent_at a.mail.ends j
  pub hands : (j : ℕ) → IsBranchOf (code_in a).shape 0 j → slice_get b.hands j ≡ slice_get a.hands j
  pub quiet : a.mail.tells ≡ true → ((j : ℕ) → j < length a.mail.ends → Quiet a j) → (j : ℕ) → j < length a.mail.ends → Quiet b j
