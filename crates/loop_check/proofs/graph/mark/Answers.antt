use Rattle.std.proofs.Common.{◌∙◌, ap, false, get_or, arith}
use Rattle.loop_check.specs.Graph.{trues}
use Rattle.loop_check.proofs.Ordered.{trues_push, trues_set, push_same}
use Rattle.loop_check.proofs.graph.mark.Goals as goal

pub loop-marks-preserved : goal.loop-marks-preserved
loop-marks-preserved c =
    let e = c.in_ok-push.ensures.items in
    let old = c.loop-marks.marks.items in
    (λ k. ap (λ xs. get_or xs k false) e ∙ push_same old k ∙ c.loop-marks.invariant.0 k, ap trues e ∙ trues_push old ∙ c.loop-marks.invariant.1)

pub returns-clause-few : goal.returns-clause-few
returns-clause-few c =
    let e = c.loop-marks.invariant.1 in
    let t = trues_set c.loop-marks.marks.items c.args.f in
    omega (arith, e, t)
