use Rattle.std.proofs.Common.{◌≡◌, ◌++◌, drop}
use Rattle.forec_check.specs.Early.{effect_calls}
use Rattle.forec_check.proofs.rules.recursion.called_functions.Given as goal

abbrev pub invariant-loop-effect : goal.invariant-loop-effect
invariant-loop-effect l = l.list.items ++ effect_calls (drop l.effect-index l.effects) ≡ effect_calls l.fn.effects
