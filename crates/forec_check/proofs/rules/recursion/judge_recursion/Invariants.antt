use Rattle.std.proofs.Common.{take}
use Rattle.loop_check.specs.Views.{indexed_text}
use Rattle.forec_check.specs.Early.{IsLeastOrNone, EarlyTo}
use Rattle.forec_check.proofs.rules.recursion.judge_recursion.Given as goal

abbrev pub invariant-loop-at : goal.invariant-loop-at
invariant-loop-at l = IsLeastOrNone l.least (EarlyTo (indexed_text l.index) l.names (take l.at (indexed_text l.index)))
