use Rattle.exchange_replay.proofs.UsedLemmas.{UsedUpTo}
use Rattle.exchange_replay.proofs.walk.Walk.is_used.Given as goal

abbrev pub invariant-loop-branch : goal.invariant-loop-branch
invariant-loop-branch l = UsedUpTo l.fn.self.branches.items l.branch-index
