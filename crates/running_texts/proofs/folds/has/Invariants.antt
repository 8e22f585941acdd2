use Rattle.std.proofs.Common.{◌≡◌, drop}
use Rattle.forec_kernel.specs.Combining.{contains}
use Rattle.running_texts.proofs.folds.has.Given as goal

abbrev pub invariant-loop-other : goal.invariant-loop-other
invariant-loop-other l = contains l.variable (drop l.other-index l.uses) ≡ contains l.variable l.uses
