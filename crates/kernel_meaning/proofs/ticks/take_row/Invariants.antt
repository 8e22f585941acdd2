use Rattle.std.proofs.Common.{◌≡◌, drop}
use Rattle.forec_kernel.specs.Ticks.{with_row}
use Rattle.kernel_meaning.proofs.ticks.take_row.Given as goal

abbrev pub invariant-loop-i : goal.invariant-loop-i
invariant-loop-i l = with_row l.uses (drop l.i l.inputs) (drop l.i l.row) l.copies.items ≡ with_row l.uses l.inputs l.row l.initial.copies.items
