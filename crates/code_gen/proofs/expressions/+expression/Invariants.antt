use Rattle.std.proofs.Common.{◌≡◌, ◌++◌, length, drop}
use Rattle.forec_kernel.specs.Plain.{exprs}
use Rattle.code_gen.specs.Expressions.{expressions_code}
use Rattle.code_gen.proofs.expressions.+expression.Given as goal

abbrev pub invariant-emit_expressions-loop-expression : goal.invariant-emit_expressions-loop-expression
invariant-emit_expressions-loop-expression l =
    l.steps.items ++ expressions_code (length l.steps.items) (exprs (drop l.expression-index l.expressions)) ≡ l.fn.steps.items ++ expressions_code (length l.fn.steps.items) (exprs l.fn.expressions)
