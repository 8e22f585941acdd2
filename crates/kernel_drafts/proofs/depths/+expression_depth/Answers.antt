use Rattle.std.proofs.Common.{◌≡◌, ◌∙◌, ◌+◌, ◌-◌, ◌^◌, min, arith}
use Rattle.forec_kernel.specs.Plain.{exprs}
use Rattle.forec_kernel.specs.WellFormed.{expr_depth, exprs_depth}
use Rattle.kernel_calls.proofs.Formed.{of_call}
use Rattle.kernel_drafts.proofs.depths.+expression_depth.Goals as goal

pub expression_depth-returns-in-Call : goal.expression_depth-returns-in-Call
expression_depth-returns-in-Call t c =
    let slice = c.as_slice.result.now in
    let a = c.add-in-Call.ensures in
    let b = c.all_depths.ensures in
    let base : c.add-in-Call.result ≡ min (1 + exprs_depth (exprs slice)) (2 ^ 64 - 1) = omega (arith, a, b) in
    base ∙ of_call (λ k. min (expr_depth k) (2 ^ 64 - 1)) c.args.e.now c.in-Call.function c.in-Call.args slice c.in-Call.is c.as_slice.ensures.value
