-- The first branches of a fork have done their jobs.
use Rattle.std.specs.Prelude.{ℕ, ◌≡◌, ◌≤◌, Some, List, ◌++◌, length, slice_get}
use Rattle.forec_kernel.specs.Engine.{Reply, Written, Answered, pair_up}
use Rattle.core_machine.specs.declared.thread.Thread.{Thread}
use Rattle.core_machine.specs.Forks.{jobs_at}
use Rattle.core_seats.specs.Done.{Posts}
use Rattle.core_seats.specs.Keeping.{SchedulerState, code_in, QuietAbove, KeepsBelow, IsJobFor, HasHeard}

pub record Consulted (a b : SchedulerState) (h : Thread) (k : ℕ) : Type 0 where
  pub within : k ≤ length h.branches.numbers
  pub leaves : KeepsBelow h.number h.number a b
  pub above : QuietAbove b h.number
  pub replies : List Reply
  pub count : length replies ≡ k
  pub heard : (i number : ℕ) (r : Reply) → slice_get h.branches.numbers i ≡ Some number → slice_get replies i ≡ Some r → HasHeard b number r
  pub posts : (pairs : List Answered) → Posts (code_in a) h.number a.mail pairs → Posts (code_in a) h.number b.mail (pairs ++ pair_up (jobs_at (code_in a) h) replies)
  pub rest : (i : ℕ) (w : Written) → k ≤ i → slice_get (jobs_at (code_in a) h) i ≡ Some w → IsJobFor (code_in a) b.mail h.number w

-- what was told to the branches of a thread, and what they told, is now that and this fork's jobs and replies
abbrev pub PostsMore : SchedulerState → SchedulerState → Thread → List Reply → Type 0
PostsMore a b h rs = (pairs : List Answered) → Posts (code_in a) h.number a.mail pairs → Posts (code_in a) h.number b.mail (pairs ++ pair_up (jobs_at (code_in a) h) rs)
