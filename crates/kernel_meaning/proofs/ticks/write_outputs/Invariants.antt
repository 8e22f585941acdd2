use Rattle.std.proofs.Common.{◌≡◌, ◌++◌, take, drop}
use Rattle.forec_kernel.specs.Ticks.{values_of}
use Rattle.kernel_meaning.proofs.ticks.write_outputs.Given as goal

abbrev pub invariant-loop-i : goal.invariant-loop-i
invariant-loop-i l = l.outputs ≡ values_of l.uses l.copies (take l.i l.variables) ++ drop l.i l.initial.outputs
