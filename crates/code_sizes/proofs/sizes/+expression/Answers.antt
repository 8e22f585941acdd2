use Rattle.std.proofs.Common.{◌≡◌, ◌+◌, ap, sym, ◌∙◌, subst, IfOk}
use Rattle.forec_kernel.specs.Plain.{expr, exprs}
use Rattle.forec_kernel.proofs.VecTerms.{expr-call}
use Rattle.code_sizes.specs.Sizes.{expression_length, expressions_length}
use Rattle.code_sizes.proofs.sizes.+expression.Goals as goal

pub expression_size-returns-in_ok-inside-in-Call : goal.expression_size-returns-in_ok-inside-in-Call
expression_size-returns-in_ok-inside-in-Call t c =
    let inside = c.in_ok-inside-in-Call.ensures ∙ ap (λ l. expressions_length (exprs l)) c.deref-in-Call.ensures.value in
    let same = ap expression_length (ap expr c.in-Call.is ∙ expr-call c.in-Call.function c.in-Call.args) in
    subst (λ m. IfOk c.add.result (λ n. n ≡ m)) (ap (λ n. n + 1) inside ∙ sym same) c.add.ensures
