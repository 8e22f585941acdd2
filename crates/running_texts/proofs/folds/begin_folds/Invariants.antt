use Rattle.std.proofs.Common.{◌≡◌, take}
use Rattle.running_texts.specs.Folding.{first_folds}
use Rattle.running_texts.proofs.folds.begin_folds.Given as goal

abbrev pub invariant-loop-i : goal.invariant-loop-i
invariant-loop-i l = l.folds.items ≡ first_folds (take l.i l.uses) (take l.i l.copies)
