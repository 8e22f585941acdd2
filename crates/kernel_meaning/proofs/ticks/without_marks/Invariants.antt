use Rattle.std.proofs.Common.{◌≡◌, take}
use Rattle.forec_kernel.specs.Ticks.{unmarked}
use Rattle.kernel_meaning.proofs.ticks.without_marks.Given as goal

abbrev pub invariant-loop-copy : goal.invariant-loop-copy
invariant-loop-copy l = l.list.items ≡ unmarked (take l.copy-index l.copies)
