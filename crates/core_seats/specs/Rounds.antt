-- How a host goes round its mailboxes.
use Rattle.std.specs.Prelude.{ℕ, ◌≡◌, ◌<◌, ◌≤◌, List, Some, length, slice_get}
use Rattle.core_seats.specs.declared.round.Round.{Round}
use Rattle.core_seats.specs.Changes.{HasWorked, HasProgressed, IsIdle}
use Rattle.core_seats.specs.Hung.{KeepsRope}
use Rattle.core_seats.specs.Keeping.{SchedulerState, code_in}
use Rattle.core_seats.specs.Waiting.{RestsOrWaits, CanDescend}

-- each of these mailboxes can be served, with the threads above it, and the next is one of them, or none is left before the round's end
pub record CanServe (s : SchedulerState) (round : Round) : Type 0 where
  pub next : round.next ≤ length round.own.items
  pub each : (i k : ℕ) → slice_get round.own.items i ≡ Some k → (k < length s.mail.ends) × RestsOrWaits s k
  pub all : CanDescend s 0

-- the same mailboxes, from another one on
pub record IsSameRound (before after : Round) : Type 0 where
  pub own : after.own.items ≡ before.own.items
  pub next : after.next ≤ length after.own.items
  pub rope : KeepsRope before.rope after.rope

-- there was something to do for the thread of one of these mailboxes, and it was done
pub record SomeWorked (own : List ℕ) (a b : SchedulerState) : Type 0 where
  pub place : ℕ
  pub mailbox : ℕ
  pub at : slice_get own place ≡ Some mailbox
  pub progress : HasProgressed (code_in a).shape a.mail b.mail mailbox

-- each of their threads was seen to have nothing to do
abbrev pub AllIdle : List ℕ → SchedulerState → SchedulerState → Type 0
AllIdle own a b = (i k : ℕ) → slice_get own i ≡ Some k → IsIdle (code_in a).shape a.mail b.mail k

-- of the one at this place: there was something to do for its thread, and it was done, or it was seen to have nothing to do
abbrev pub WorkedAt : List ℕ → ℕ → SchedulerState → SchedulerState → Type 0
WorkedAt own i a b = (k : ℕ) → slice_get own i ≡ Some k → HasWorked (code_in a).shape a.mail b.mail k

abbrev pub IsIdleAt : List ℕ → ℕ → SchedulerState → SchedulerState → Type 0
IsIdleAt own i a b = (k : ℕ) → slice_get own i ≡ Some k → IsIdle (code_in a).shape a.mail b.mail k
