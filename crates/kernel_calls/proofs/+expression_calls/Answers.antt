use Rattle.std.proofs.Common.{◌∙◌, ap, ◌++◌, ◌∷◌, [], append_assoc}
use Rattle.forec_kernel.specs.Plain.{exprs}
use Rattle.forec_kernel.specs.WellFormed.{calls_of, calls_in}
use Rattle.kernel_calls.proofs.Formed.{of_call}
use Rattle.kernel_calls.proofs.+expression_calls.Goals as goal

pub expression_calls-returns-in_ok-all_calls-in-Call : goal.expression_calls-returns-in_ok-all_calls-in-Call
expression_calls-returns-in_ok-all_calls-in-Call t c =
    let old = c.args.calls.now.items in
    let slice = c.as_slice.result.now in
    c.in_ok-all_calls-in-Call.ensures
    ∙ (ap (λ l. l ++ calls_in (exprs slice)) c.in_ok-push-in-Call.ensures.items
    ∙ (append_assoc old (c.in-Call.function ∷ []) (calls_in (exprs slice)) ∙ of_call (λ k. old ++ calls_of k) c.args.e.now c.in-Call.function c.in-Call.args slice c.in-Call.is c.as_slice.ensures.value))
