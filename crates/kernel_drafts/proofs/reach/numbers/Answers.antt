use Rattle.std.proofs.Common.{◌≡◌, ◌∙◌, ◌+◌, sym, ap, ◌++◌, ◌∷◌, [], arith}
use Rattle.forec_kernel.specs.WellFormed.{count_up}
use Rattle.kernel_drafts.proofs.Marking.{count_more}
use Rattle.kernel_drafts.proofs.reach.numbers.Goals as goal

pub loop-i-preserved : goal.loop-i-preserved
loop-i-preserved c =
    let n : c.in-Ok.number ≡ 0 + c.loop-i.i = (let e = c.in-Ok.ensures in omega (arith, e)) in
    c.in_ok-push-in-Ok.ensures.items
    ∙ (ap (λ l. l ++ c.in-Ok.number ∷ []) c.loop-i.invariant ∙ (ap (λ m. count_up 0 c.loop-i.i ++ m ∷ []) n ∙ sym (count_more 0 c.loop-i.i)))
