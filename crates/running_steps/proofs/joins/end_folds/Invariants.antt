use Rattle.std.proofs.Common.{◌≡◌, ◌++◌, drop}
use Rattle.forec_kernel.specs.Shapes.{plain_kernel}
use Rattle.running_threads.specs.Views.{threads}
use Rattle.running_texts.specs.Folding.{folded_copies}
use Rattle.running_steps.proofs.joins.end_folds.Given as goal

abbrev pub invariant-loop-i : goal.invariant-loop-i
invariant-loop-i l =
    l.list.items ++ folded_copies (plain_kernel l.kernel) (threads l.children) (drop l.i l.uses) (drop l.i l.copies) (drop l.i l.folds)
    ≡ folded_copies (plain_kernel l.kernel) (threads l.children) l.uses l.copies l.folds
