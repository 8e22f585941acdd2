use Rattle.core_bells.specs.Ropes.{IsSameRope}
use Rattle.core_seats.proofs.hints.hint_branches.Given as goal

abbrev pub invariant-loop-k : goal.invariant-loop-k
invariant-loop-k g l = IsSameRope l.fn.rope l.rope
