use Rattle.std.proofs.Common.{◌≡◌, ◌<◌, ◌-◌, List, length}
use Rattle.forec_kernel.specs.Engine.{Reply, Exchange}
use Rattle.thread_code.specs.Plain.{plain_code}
use Rattle.core_machine.specs.Threads.{StandsFor, HasJoined, CanRun}
use Rattle.core_machine.specs.Forks.{with_replies}
use Rattle.tick_jobs.proofs.BranchLoops.{AtBranch}
use Rattle.exchange_replay.specs.Walks.{HaveLoggedReplies}
use Rattle.exchange_replay.proofs.walk.Walk.join.Given as goal

abbrev pub invariant-loop-branch : goal.invariant-loop-branch
invariant-loop-branch l = record {
  at : AtBranch (plain_code l.fn.code) l.fn.self.thread l.self.thread l.k;
  tracks : l.self.branches ≡ l.fn.self.branches;
  order : l.k < length l.fn.self.thread.branches.numbers → HasJoined l.self.thread l.k;
  running : l.k ≡ length l.fn.self.thread.branches.numbers → CanRun l.self.thread;
  stands : (rs : List Reply) (xs : List Exchange) → HaveLoggedReplies (plain_code l.fn.code) l.fn.self l.fn.self.thread.branches.numbers rs → StandsFor (plain_code l.fn.code) l.fn.self.thread (with_replies xs rs)
      → StandsFor (plain_code l.fn.code) l.self.thread (with_replies xs rs);
}

abbrev pub decreases-loop-branch : goal.decreases-loop-branch
decreases-loop-branch l = length l.fn.self.thread.branches.numbers - l.k
