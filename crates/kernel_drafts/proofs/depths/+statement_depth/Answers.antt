use Rattle.std.proofs.Common.{◌≡◌, ◌∙◌, ◌+◌, ◌-◌, ◌^◌, min, arith}
use Rattle.forec_kernel.specs.Plain.{stmts}
use Rattle.forec_kernel.specs.WellFormed.{stmt_depth, stmts_depth}
use Rattle.kernel_calls.proofs.Formed.{of_sequence}
use Rattle.kernel_drafts.proofs.depths.+statement_depth.Goals as goal

pub statement_depth-returns-in-Sequence : goal.statement_depth-returns-in-Sequence
statement_depth-returns-in-Sequence t c =
    let slice = c.as_slice.result.now in
    let a = c.add-in-Sequence.ensures in
    let b = c.list_depth.ensures in
    let base : c.add-in-Sequence.result ≡ min (1 + stmts_depth (stmts slice)) (2 ^ 64 - 1) = omega (arith, a, b) in
    base ∙ of_sequence (λ k. min (stmt_depth k) (2 ^ 64 - 1)) c.args.s.now c.in-Sequence.list slice c.in-Sequence.is c.as_slice.ensures.value
