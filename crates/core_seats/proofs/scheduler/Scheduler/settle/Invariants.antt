use Rattle.std.proofs.Common.{◌-◌, [], List, length, take}
use Rattle.forec_kernel.specs.Engine.{Reply, Exchange}
use Rattle.core_machine.specs.Threads.{StandsFor, HasSettled}
use Rattle.core_machine.specs.Forks.{with_replies}
use Rattle.tick_jobs.proofs.BranchLoops.{AtBranch}
use Rattle.core_seats.specs.Keeping.{code_in, HaveHeard}
use Rattle.core_seats.proofs.scheduler.Scheduler.settle.Given as goal

abbrev pub invariant-loop-branch : goal.invariant-loop-branch
invariant-loop-branch g l = record {
  at : AtBranch (code_in l.fn.self) l.fn.thread l.thread l.k;
  order : HasSettled l.thread l.k;
  stands : (rs : List Reply) (xs : List Exchange) → HaveHeard l.fn.self l.fn.thread.branches.numbers rs → StandsFor (code_in l.fn.self) l.fn.thread (with_replies xs []) → StandsFor (code_in l.fn.self) l.thread (with_replies xs (take l.k rs));
}

abbrev pub decreases-loop-branch : goal.decreases-loop-branch
decreases-loop-branch g l = length l.fn.thread.branches.numbers - l.k
