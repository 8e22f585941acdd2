use Rattle.std.proofs.Common.{◌≡◌, ◌-◌, length, drop}
use Rattle.forec_kernel.specs.Values.{copy_of}
use Rattle.running_texts.proofs.operators.copy_in.Given as goal

abbrev pub invariant-loop-i : goal.invariant-loop-i
invariant-loop-i l = copy_of (drop l.i l.uses) (drop l.i l.copies) l.variable ≡ copy_of l.uses l.copies l.variable

abbrev pub decreases-loop-i : goal.decreases-loop-i
decreases-loop-i l = length l.uses - l.i
