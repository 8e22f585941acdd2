use Rattle.std.proofs.Common.{SFits, w32, rules, arith}
use Rattle.std.proofs.lemmas.Int.{to_z-of_z}
use Rattle.running_texts.proofs.Rows.{outputs_next, outputs_end}
use Rattle.kernel_meaning.proofs.ticks.write_outputs.Goals as goal

pub loop-i-preserved : goal.loop-i-preserved
loop-i-preserved c =
    let fits : SFits w32 c.copy_value.result = search rules in
    let next = outputs_next c.args.uses.now c.args.copies.now c.args.variables.now c.args.outputs.now c.loop-i.outputs c.loop-i.i 0
    c.loop-i-test.true (omega arith) c.loop-i.invariant in
    simp to_z-of_z (rw c.copy_value.ensures next)

pub returns : goal.returns
returns c =
    outputs_end c.args.uses.now c.args.copies.now c.args.variables.now c.args.outputs.now c.loop-i.outputs c.loop-i.i c.loop-i-test.false c.requires c.loop-i.invariant
