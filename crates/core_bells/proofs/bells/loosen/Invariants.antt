use Rattle.core_bells.specs.Ropes.{AreFirsts, AreNewFirst, FitFirst}
use Rattle.core_bells.proofs.bells.loosen.Given as goal

abbrev pub invariant-loop-core : goal.invariant-loop-core
invariant-loop-core l = record {
  firsts : AreFirsts l.core l.fn.queues l.firsts.items;
  fit : FitFirst l.fn.queues l.core l.loose.items;
  states : AreNewFirst l.fn.queues l.core l.loose.items;
}
