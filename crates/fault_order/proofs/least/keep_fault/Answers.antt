use Rattle.std.proofs.lemmas.Grind.{common_steps}
use Rattle.std.proofs.Common.{arith}
use Rattle.fault_order.specs.Least.{least_from}
use Rattle.fault_order.proofs.least.keep_fault.Goals as goal

pub returns-in-None : goal.returns-in-None
unfolding least_from
returns-in-None c = grind (arith, common_steps)

pub returns-then-is_before : goal.returns-then-is_before
unfolding least_from
returns-then-is_before c = grind (arith, common_steps)

pub returns-else-is_before : goal.returns-else-is_before
unfolding least_from
returns-else-is_before c = grind (arith, common_steps)

pub returns-else-broken : goal.returns-else-broken
unfolding least_from
returns-else-broken c = grind (arith, common_steps)
