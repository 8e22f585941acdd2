use Rattle.std.proofs.Common.{arith}
use Rattle.loop_check.proofs.Ordered.{marked_step}
use Rattle.loop_check.proofs.graph.marked.Goals as goal

pub loop-f-preserved : goal.loop-f-preserved
loop-f-preserved c =
    let few = c.in_ok-mark.ensures.few in
    let old = c.loop-f.invariant.1 in
    (λ g. marked_step c.args.functions.now c.loop-f.f-index g _ _ c.loop-f-test.true (c.in_ok-mark.ensures.set g) (c.loop-f.invariant.0 g), omega (arith, few, old))
