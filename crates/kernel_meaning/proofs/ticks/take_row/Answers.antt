use Rattle.std.proofs.Common.{◌∙◌, ◌≤◌, min, length, pos, sym, arith}
use Rattle.running_texts.proofs.Rows.{row_next, row_ends}
use Rattle.kernel_meaning.proofs.ticks.take_row.Goals as goal

pub loop-i-preserved : goal.loop-i-preserved
loop-i-preserved c =
    rw (c.set_copy.ensures, c.input_at.ensures)
    (row_next c.args.uses.now c.args.inputs.now c.args.row.now c.loop-i.i 0 (pos 0) c.loop-i.copies.items (omega arith) (omega arith) ∙ c.loop-i.invariant)

pub returns : goal.returns
returns c =
    let past : min (length c.args.inputs.now) (length c.args.row.now) ≤ c.loop-i.i = omega arith in
    sym (row_ends c.args.uses.now c.args.inputs.now c.args.row.now c.loop-i.i c.loop-i.copies.items past) ∙ c.loop-i.invariant
