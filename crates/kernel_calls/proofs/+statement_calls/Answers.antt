use Rattle.std.proofs.Common.{◌∙◌, ◌++◌}
use Rattle.forec_kernel.specs.WellFormed.{stmt_calls}
use Rattle.kernel_calls.proofs.Formed.{of_sequence}
use Rattle.kernel_calls.proofs.+statement_calls.Goals as goal

pub statement_calls-returns-in_ok-list_calls-in-Sequence : goal.statement_calls-returns-in_ok-list_calls-in-Sequence
statement_calls-returns-in_ok-list_calls-in-Sequence t c =
    c.in_ok-list_calls-in-Sequence.ensures ∙ of_sequence (λ k. c.args.calls.now.items ++ stmt_calls k) c.args.s.now c.in-Sequence.list c.as_slice.result.now c.in-Sequence.is c.as_slice.ensures.value
