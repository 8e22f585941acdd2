use Rattle.std.proofs.Common.{◌≤◌, ◌<◌, ◌≡◌, min, get_or, length, false, pos, arith}
use Rattle.std.proofs.lemmas.List.{get_or_read}
use Rattle.forec_kernel.specs.declared.shape.VarCopy.{VarCopy}
use Rattle.forec_kernel.specs.Shapes.{plain_kernel}
use Rattle.running_threads.specs.Views.{threads}
use Rattle.running_texts.proofs.FoldLists.{folded_keep, folded_next, folded_end, blank}
use Rattle.forec_kernel.specs.Combining.{shares, some_marked}
use Rattle.running_steps.proofs.joins.end_folds.Goals as goal

pub returns : goal.returns
returns c =
    folded_end (plain_kernel c.args.kernel.now) (threads c.args.children.now) c.args.uses.now c.args.copies.now c.args.folds.now c.loop-i.i
    c.loop-i.list.items _ c.loop-i-test.false c.loop-i.invariant

pub loop-i-preserved-then-some-i : goal.loop-i-preserved-then-some-i
loop-i-preserved-then-some-i c =
    let past : min (length c.args.uses.now) (length c.args.folds.now) ≤ c.loop-i.i = omega arith in
    let d : VarCopy = record { value = pos 0; modified = false } in
    rw (c.in_ok-push.ensures.items)
    (folded_keep (plain_kernel c.args.kernel.now) (threads c.args.children.now) c.args.uses.now c.args.copies.now c.args.folds.now c.loop-i.i d
    c.loop-i.list.items _ past c.loop-i-test.true c.loop-i.invariant)

pub loop-i-preserved : goal.loop-i-preserved
loop-i-preserved c =
    let some : c.loop-i.i < min (length c.args.uses.now) (length c.args.folds.now) = omega arith in
    let mark : get_or c.in_ok-marks.marks.items c.loop-i.i false ≡ some_marked (shares (plain_kernel c.args.kernel.now) (get_or c.args.uses.now c.loop-i.i 0) 0 (threads c.args.children.now)) =
    c.in_ok-marks.ensures.each 0 c.loop-i.i (omega arith) in
    let d : VarCopy = record { value = pos 0; modified = false } in
    let long : length c.in_ok-marks.marks.items ≡ length c.args.uses.now = c.in_ok-marks.ensures.long in
    let read : c.index.result.now ≡ get_or c.in_ok-marks.marks.items c.loop-i.i false =
    get_or_read c.in_ok-marks.marks.items c.loop-i.i c.index.result.now (omega arith) c.index.ensures false
    in
    rw (c.in_ok-push-2.ensures.items, c.end_fold.ensures, read, mark)
    (folded_next (plain_kernel c.args.kernel.now) (threads c.args.children.now) c.args.uses.now c.args.copies.now c.args.folds.now c.loop-i.i 0 d blank
    c.loop-i.list.items _ (omega arith) c.loop-i-test.true (omega arith) c.loop-i.invariant)
