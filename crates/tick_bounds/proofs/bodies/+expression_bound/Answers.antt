use Rattle.std.proofs.Common.{arith}
use Rattle.kernel_calls.proofs.Formed.{of_call}
use Rattle.tick_bounds.specs.Bound.{expr_bound}
use Rattle.tick_bounds.specs.Capped.{capped, known_at}
use Rattle.tick_bounds.proofs.bodies.+expression_bound.Goals as goal

pub expression_bound-returns-in-Call : goal.expression_bound-returns-in-Call
expression_bound-returns-in-Call t c =
    let e = of_call (λ x. capped (expr_bound (known_at c.args.functions.now) x)) c.args.e.now c.in-Call.function c.in-Call.args c.as_slice.result.now c.in-Call.is c.as_slice.ensures.value in
    omega arith
