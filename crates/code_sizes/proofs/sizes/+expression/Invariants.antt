use Rattle.std.proofs.Common.{◌≡◌, ◌+◌, drop}
use Rattle.forec_kernel.specs.Plain.{exprs}
use Rattle.code_sizes.specs.Sizes.{expressions_length}
use Rattle.code_sizes.proofs.sizes.+expression.Given as goal

abbrev pub invariant-expressions_size-loop-expression : goal.invariant-expressions_size-loop-expression
invariant-expressions_size-loop-expression l = l.sum + expressions_length (exprs (drop l.expression-index l.list)) ≡ expressions_length (exprs l.fn.list)
