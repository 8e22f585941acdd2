use Rattle.std.proofs.Common.{drop}
use Rattle.forec_kernel.specs.Shapes.{plain_kernel}
use Rattle.running_texts.specs.Folding.{branch_folds}
use Rattle.running_texts.proofs.FoldLists.{FoldsSoFar}
use Rattle.running_texts.proofs.folds.fold_branch.Given as goal

abbrev pub invariant-loop-fold : goal.invariant-loop-fold
invariant-loop-fold l =
    FoldsSoFar l.initial.left l.left l.next.items (branch_folds (plain_kernel l.kernel) l.uses l.copies l.folds)
    (branch_folds (plain_kernel l.kernel) l.uses l.copies (drop l.fold-index l.folds))
