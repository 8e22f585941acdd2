use Rattle.std.proofs.Common.{◌≡◌, ◌+◌, ◌-◌, ◌*◌, List, length, map}
use Rattle.forec_kernel.specs.Engine.{Job}
use Rattle.thread_code.specs.Alone.{block_of}
use Rattle.core_machine.specs.Threads.{Loaded, HasSettled}
use Rattle.core_machine.specs.Forks.{jobs_at}
use Rattle.one_core.specs.Seats.{seated_code, KeepsSeatsBelow}
use Rattle.tick_jobs.specs.Told.{Book}
use Rattle.one_core.specs.Resting.{IsAtJob}
use Rattle.one_core.specs.Called.{HasSettledReplies}
use Rattle.one_core.proofs.FinishLemmas.{Going}
use Rattle.one_core.proofs.calls.Calls.+finish.Given as goal

abbrev pub decreases-call_branches : goal.decreases-call_branches
decreases-call_branches g l = 4 * (257 - l.thread.now.number) + 1

abbrev pub decreases-call_branch : goal.decreases-call_branch
decreases-call_branch g l = 4 * (257 - l.branch) + 4

abbrev pub decreases-finish : goal.decreases-finish
decreases-finish g l = 4 * (257 - l.thread.now.number) + 3

abbrev pub decreases-serve_forks : goal.decreases-serve_forks
decreases-serve_forks g l = 4 * (257 - l.thread.now.number) + 2

abbrev pub invariant-call_branches-loop-branch : goal.invariant-call_branches-loop-branch
invariant-call_branches-loop-branch g l = record {
  called : HasSettledReplies l.fn.self l.self l.fn.thread l.thread l.k;
  loaded : Loaded (seated_code l.fn.self) l.thread;
  number : l.thread.number ≡ l.fn.thread.number;
  branches : l.thread.branches.numbers ≡ l.fn.thread.branches.numbers;
  order : HasSettled l.thread l.k;
  jobs : jobs_at (seated_code l.fn.self) l.thread ≡ jobs_at (seated_code l.fn.self) l.fn.thread;
}

abbrev pub decreases-call_branches-loop-branch : goal.decreases-call_branches-loop-branch
decreases-call_branches-loop-branch g l = length l.fn.thread.branches.numbers - l.k

abbrev pub invariant-serve_forks-loop : goal.invariant-serve_forks-loop
invariant-serve_forks-loop g l = record {
  loaded : Loaded (seated_code l.fn.self) l.thread;
  fork : HasSettled l.thread 0;
  branches : l.thread.branches.numbers ≡ map (λ w. w.branch) (jobs_at (seated_code l.fn.self) l.thread);
  number : l.thread.number ≡ l.fn.thread.number;
  leaves : KeepsSeatsBelow l.fn.thread.number l.fn.self l.self;
  at : (book : Book) (jobs : List Job) (job : Job) (w : IsAtJob l.fn.self l.fn.thread book jobs job) → Going l.fn.self l.fn.thread l.self l.thread l.forks book jobs job w;
}

abbrev pub decreases-serve_forks-loop : goal.decreases-serve_forks-loop
decreases-serve_forks-loop g l =
    (length (block_of (seated_code l.fn.self) l.fn.thread.number).steps + 2) * l.fn.thread.allowance + (length (block_of (seated_code l.fn.self) l.fn.thread.number).steps + 2) - l.forks
