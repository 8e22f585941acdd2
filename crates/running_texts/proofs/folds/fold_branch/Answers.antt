use Rattle.std.proofs.Common.{◌≡◌, ◌∙◌, ap, get_or, is_ok, true, not}
use Rattle.forec_kernel.specs.Shapes.{plain_kernel}
use Rattle.running_texts.proofs.FoldLists.{folds_more, folds_stop, folds_same, folds_next, blank}
use Rattle.running_texts.proofs.folds.fold_branch.Goals as goal

pub loop-fold-preserved : goal.loop-fold-preserved
loop-fold-preserved c =
    let ok : is_ok c.push.result ≡ true = c.is_err.ensures.negation ∙ ap not c.if-is_err.false in
    let added = rw (c.new-branch.ensures.uses, c.new-branch.ensures.copies) at c.in-Ok.ensures in
    let pushed = rw c.come_to.ensures at (rw ok at c.push.ensures.items) in
    folds_more (get_or c.args.folds.now c.loop-fold.fold-index blank) _ _ _ _ _ _ _ _ _
    (folds_same _ _ _ _ _ _ c.loop-fold.invariant
    (folds_next (plain_kernel c.args.kernel.now) c.args.uses.now c.args.copies.now c.args.folds.now c.loop-fold.fold-index blank c.loop-fold-test.true))
    added pushed

pub returns-in-Err : goal.returns-in-Err
returns-in-Err c =
    let stopped = rw (c.new-branch.ensures.uses, c.new-branch.ensures.copies) at c.in-Err.ensures in
    folds_stop (get_or c.args.folds.now c.loop-fold.fold-index blank) _ _ _ _ _ _ _ _
    (folds_same _ _ _ _ _ _ c.loop-fold.invariant
    (folds_next (plain_kernel c.args.kernel.now) c.args.uses.now c.args.copies.now c.args.folds.now c.loop-fold.fold-index blank c.loop-fold-test.true))
    stopped
