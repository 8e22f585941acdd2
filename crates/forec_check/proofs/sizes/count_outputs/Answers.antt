use Rattle.std.proofs.Common.{sym, ap, arith}
use Rattle.forec_check.specs.Checked as checked
use Rattle.program_walk.proofs.ItemRules.{items_at}
use Rattle.forec_check.proofs.sizes.count_outputs.Goals as goal

pub loop-item-preserved : goal.loop-item-preserved
loop-item-preserved c =
    let rest = ap checked.count_outputs (items_at c.args.items.now c.loop-item.item-index c.item-item.result c.loop-item-test.true (sym c.item-item.is)) in
    let own = c.outputs_in.ensures in
    let told = c.loop-item.invariant in
    omega (arith, rest, own, told)
