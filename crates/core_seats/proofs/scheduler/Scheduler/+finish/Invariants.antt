use Rattle.std.proofs.Common.{◌≡◌, ◌+◌, ◌-◌, ◌*◌, List, length}
use Rattle.forec_kernel.specs.Engine.{Job, allowance_of}
use Rattle.thread_code.specs.Alone.{block_of}
use Rattle.core_machine.specs.Threads.{Loaded, CanRun}
use Rattle.core_seats.specs.Done.{InJob}
use Rattle.core_seats.specs.Keeping.{code_in, QuietAbove, KeepsBelow}
use Rattle.core_seats.specs.ChildrenRun.{Consulted}
use Rattle.core_seats.proofs.scheduler.Scheduler.+finish.Given as goal

abbrev pub decreases-run_children : goal.decreases-run_children
decreases-run_children g l = 3 * (257 - l.thread.now.number) + 1

abbrev pub decreases-run_child : goal.decreases-run_child
decreases-run_child g l = 3 * (256 - l.mailbox) + 3

abbrev pub decreases-finish : goal.decreases-finish
decreases-finish g l = 3 * (257 - l.thread.now.number) + 2

abbrev pub invariant-run_children-loop-branch : goal.invariant-run_children-loop-branch
invariant-run_children-loop-branch g l = Consulted l.fn.self l.self l.fn.thread l.k

abbrev pub decreases-run_children-loop-branch : goal.decreases-run_children-loop-branch
decreases-run_children-loop-branch g l = length l.fn.thread.branches.numbers - l.k

abbrev pub invariant-finish-loop-self : goal.invariant-finish-loop-self
invariant-finish-loop-self g l = record {
  loaded : Loaded (code_in l.self) l.thread;
  number : l.thread.number ≡ l.fn.thread.number;
  running : CanRun l.thread;
  above : QuietAbove l.self l.fn.thread.number;
  leaves : KeepsBelow l.fn.thread.number l.fn.thread.number l.fn.self l.self;
  jobs : List Job;
  job : Job;
  in_job : InJob (code_in l.fn.self) l.thread l.self.mail jobs job;
  count : length in_job.log.before ≡ l.forks;
  allowance : allowance_of job ≡ l.fn.thread.allowance;
  done : (jobs : List Job) (job : Job) → InJob (code_in l.fn.self) l.fn.thread l.fn.self.mail jobs job → InJob (code_in l.fn.self) l.thread l.self.mail jobs job;
}

abbrev pub decreases-finish-loop-self : goal.decreases-finish-loop-self
decreases-finish-loop-self g l =
    (length (block_of (code_in l.fn.self) l.fn.thread.number).steps + 2) * l.fn.thread.allowance + (length (block_of (code_in l.fn.self) l.fn.thread.number).steps + 2) - l.forks
