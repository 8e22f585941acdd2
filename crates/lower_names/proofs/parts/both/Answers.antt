use Rattle.std.proofs.Common.{◌∙◌, ap, ◌++◌, ◌∷◌, []}
use Rattle.forec_kernel.specs.Terms.{Seq}
use Rattle.forec_kernel.specs.Plain.{stmts}
use Rattle.forec_kernel.proofs.VecTerms.{stmt-sequence}
use Rattle.lower_names.proofs.parts.both.Goals as goal

pub returns : goal.returns
returns c =
    stmt-sequence c.push-2.new.self
    ∙ (ap (λ l. Seq (stmts l)) c.in_ok-push-2.ensures.items
    ∙ (ap (λ l. Seq (stmts (l ++ c.into_inner-2.result ∷ []))) (c.in_ok-push.ensures.items ∙ ap (λ l. l ++ c.into_inner.result ∷ []) c.new-list.ensures.items)
    ∙ (ap (λ x. Seq (stmts (x ∷ c.into_inner-2.result ∷ []))) c.into_inner.ensures ∙ ap (λ y. Seq (stmts (c.args.first.value ∷ y ∷ []))) c.into_inner-2.ensures)))
