use Rattle.core_bells.proofs.Dealing.{AreDealt}
use Rattle.core_bells.proofs.passes.passes_of.Given as goal

abbrev pub invariant-loop-at : goal.invariant-loop-at
invariant-loop-at l = AreDealt l.fn.core l.fn.queues l.at l.firsts.items l.passes.items
