use Rattle.std.proofs.Common.{◌≡◌, take}
use Rattle.forec_kernel.specs.Ticks.{start_copies}
use Rattle.kernel_meaning.proofs.ticks.first_copies.Given as goal

abbrev pub invariant-loop-variable : goal.invariant-loop-variable
invariant-loop-variable l = l.list.items ≡ start_copies (take l.variable-index l.variables)
