use Rattle.std.proofs.Common.{◌∙◌, ◌≤◌, min, length, false, pos, arith}
use Rattle.forec_kernel.specs.declared.shape.VarCopy.{VarCopy}
use Rattle.running_texts.proofs.FoldLists.{first_more, first_end}
use Rattle.running_texts.proofs.folds.begin_folds.Goals as goal

pub loop-i-preserved : goal.loop-i-preserved
loop-i-preserved c =
    let d : VarCopy = record { value = pos 0; modified = false } in
    rw (c.in_ok-push.ensures.items, c.begin_fold.ensures)
    (first_more c.args.uses.now c.args.copies.now c.loop-i.i 0 d c.loop-i.folds.items (omega arith) (omega arith) c.loop-i.invariant)

pub returns : goal.returns
returns c =
    let past : min (length c.args.uses.now) (length c.args.copies.now) ≤ c.loop-i.i = omega arith in
    c.loop-i.invariant ∙ first_end c.args.uses.now c.args.copies.now c.loop-i.i past
