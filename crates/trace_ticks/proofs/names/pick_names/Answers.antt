use Rattle.std.proofs.Common.{length, arith, length-append, [], ◌∷◌}
use Rattle.trace_ticks.proofs.Picking.{below_more, names_more}
use Rattle.trace_ticks.proofs.names.pick_names.Goals as goal

pub loop-variable-preserved : goal.loop-variable-preserved
loop-variable-preserved c =
    let i = c.loop-variable.invariant in
    let at = c.loop-variable.variable-index in
    let vs = c.args.variables.now in
    let names = c.args.names.now in
    record {
      told = names_more names c.loop-variable.picked c.push.new.self c.get.result.now vs at _ c.loop-variable-test.true c.get.ensures c.in_ok-push.ensures.ok i.told;
      below = below_more (length names) vs at c.loop-variable-test.true i.below;
      few = (let e = c.in_ok-push.ensures.ok in rw e (omega (arith, i.few, length-append c.loop-variable.picked (c.get.result.now ∷ []))));
    }
