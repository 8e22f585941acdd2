use Rattle.std.proofs.Common.{◌∙◌}
use Rattle.kernel_calls.proofs.Formed.{of_sequence}
use Rattle.forec_kernel.specs.Shapes.{plain_kernel}
use Rattle.tick_bounds.specs.Bound.{stmt_bound}
use Rattle.tick_bounds.specs.Capped.{capped, by_tables}
use Rattle.tick_bounds.proofs.bodies.+statement_bound.Goals as goal

pub statement_bound-returns-in-Sequence : goal.statement_bound-returns-in-Sequence
statement_bound-returns-in-Sequence t c =
    let scope = c.args.scope.now in
    c.list_bound.ensures
    ∙ of_sequence (λ x. capped (stmt_bound (plain_kernel scope.kernel.now) (by_tables scope.functions.now scope.threads.now) scope.uses.now x)) c.args.s.now c.in-Sequence.list c.as_slice.result.now c.in-Sequence.is c.as_slice.ensures.value
