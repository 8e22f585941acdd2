use Rattle.std.proofs.Common.{◌∙◌, sym, add-one, arith}
use Rattle.running_texts.proofs.Copies.{copy_next, copy_past}
use Rattle.running_texts.proofs.operators.copy_in.Goals as goal

pub loop-i-preserved : goal.loop-i-preserved
loop-i-preserved c =
    rw add-one (copy_next c.args.uses.now c.args.copies.now c.args.variable c.loop-i.i 0 (omega arith) (omega arith) c.if-uses-i.false ∙ c.loop-i.invariant)

pub returns-else-i-copies : goal.returns-else-i-copies
returns-else-i-copies c =
    sym (copy_past c.args.uses.now c.args.copies.now c.args.variable c.loop-i.i c.if-i-copies.false) ∙ c.loop-i.invariant
