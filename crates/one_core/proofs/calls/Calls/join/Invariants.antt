use Rattle.std.proofs.Common.{◌≡◌, ◌<◌, ◌-◌, List, length}
use Rattle.forec_kernel.specs.Engine.{Reply, Exchange}
use Rattle.core_machine.specs.Threads.{StandsFor, HasJoined, CanRun}
use Rattle.core_machine.specs.Forks.{with_replies}
use Rattle.tick_jobs.proofs.BranchLoops.{AtBranch}
use Rattle.one_core.specs.Seats.{seated_code}
use Rattle.one_core.specs.Called.{BranchesHaveReplies}
use Rattle.one_core.proofs.calls.Calls.join.Given as goal

abbrev pub invariant-loop-branch : goal.invariant-loop-branch
invariant-loop-branch l = record {
  at : AtBranch (seated_code l.fn.self) l.fn.thread l.thread l.k;
  order : l.k < length l.fn.thread.branches.numbers → HasJoined l.thread l.k;
  running : l.k ≡ length l.fn.thread.branches.numbers → CanRun l.thread;
  stands : (rs : List Reply) (xs : List Exchange) → BranchesHaveReplies l.fn.self l.fn.thread.branches.numbers rs → StandsFor (seated_code l.fn.self) l.fn.thread (with_replies xs rs) → StandsFor (seated_code l.fn.self) l.thread (with_replies xs rs);
}

abbrev pub decreases-loop-branch : goal.decreases-loop-branch
decreases-loop-branch l = length l.fn.thread.branches.numbers - l.k
