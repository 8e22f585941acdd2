use Rattle.std.proofs.Common.{rules, SFits, w32}
use Rattle.std.proofs.lemmas.Int.{to_z-of_z}
use Rattle.running_texts.proofs.Kernels.{handed_more}
use Rattle.running_texts.proofs.forks.copies_below.Goals as goal

pub loop-variable-preserved : goal.loop-variable-preserved
loop-variable-preserved c =
    let fits : SFits w32 c.value.result = search rules in
    let pushed = simp to_z-of_z at c.in_ok-push.ensures.items in
    let value = rw (c.new-parent.ensures.uses, c.new-parent.ensures.copies) at c.value.ensures in
    rw (pushed, value)
    (handed_more c.args.uses.now c.args.copies.now c.args.variables.now c.loop-variable.variable-index 0 c.loop-variable.list.items
    c.loop-variable-test.true c.loop-variable.invariant)
