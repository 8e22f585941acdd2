-- How what went through mailboxes changes in a call.
use Rattle.std.specs.Prelude.{ℕ, suc, ◌≡◌, ◌<◌, true, false, List, [], ◌∷◌, ◌++◌, length}
use Rattle.forec_kernel.specs.Shapes.{PlainShape}
use Rattle.copy_slots.specs.Ports.{sent, got, taken, answered, looked_by_parent, looked_by_child, ChildIs}
use Rattle.core_seats.specs.Posts.{Mail}
use Rattle.tick_jobs.specs.Branches.{IsBranchOf}

-- a list keeps what it had, in front
pub record Extends {A : Type 0} (before after : List A) : Type 0 where
  pub more : List A
  pub is : after ≡ before ++ more

-- a list gained one
pub record GainsOne {A : Type 0} (before after : List A) : Type 0 where
  pub one : A
  pub is : after ≡ before ++ one ∷ []

-- of the turn words that an end has loaded, this call loaded at least one, and the last was this
pub record Looked (word : ℕ) (before after : List ℕ) : Type 0 where
  pub words : List ℕ
  pub is : after ≡ before ++ words ++ word ∷ []

-- nothing that went through a mailbox, or was seen there, is forgotten
pub record Grown (before after : Mail) : Type 0 where
  pub sent : (k : ℕ) → Extends (sent before k) (sent after k)
  pub got : (k : ℕ) → Extends (got before k) (got after k)
  pub taken : (k : ℕ) → Extends (taken before k) (taken after k)
  pub answered : (k : ℕ) → Extends (answered before k) (answered after k)
  pub looked_by_parent : (k : ℕ) → Extends (looked_by_parent before k) (looked_by_parent after k)
  pub looked_by_child : (k : ℕ) → Extends (looked_by_child before k) (looked_by_child after k)
  pub stops : Extends before.stops after.stops

-- thread k + 1 has answered a job, or a job was sent to a branch of it
pub data HasWorked (s : PlainShape) (before after : Mail) (k : ℕ) : Type 0 where
  replied : GainsOne (answered before k) (answered after k) → HasWorked s before after k
  forked : (j : ℕ) → IsBranchOf s (suc k) j → Extends (sent before j) (sent after j) → length (sent before j) < length (sent after j) → HasWorked s before after k

-- the same, at least once
pub data HasProgressed (s : PlainShape) (before after : Mail) (k : ℕ) : Type 0 where
  answered_more : length (answered before k) < length (answered after k) → HasProgressed s before after k
  sent_more : (j : ℕ) → IsBranchOf s (suc k) j → length (sent before j) < length (sent after j) → HasProgressed s before after k

-- a branch of thread k + 1 has not answered yet
pub record Awaits (s : PlainShape) (before after : Mail) (k : ℕ) : Type 0 where
  pub branch : ℕ
  pub is : IsBranchOf s (suc k) branch
  pub looked : Looked 1 (looked_by_parent before branch) (looked_by_parent after branch)

-- there is nothing to do for thread k + 1: where it rests no job has come, and where it has a job a branch has not answered yet
pub record IsIdle (s : PlainShape) (before after : Mail) (k : ℕ) : Type 0 where
  pub rests : ChildIs after k false → Looked 0 (looked_by_child before k) (looked_by_child after k)
  pub forked : ChildIs after k true → Awaits s before after k
