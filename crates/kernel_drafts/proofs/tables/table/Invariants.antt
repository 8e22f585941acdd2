use Rattle.std.proofs.Common.{◌≡◌, ◌-◌, ◌++◌, drop}
use Rattle.text_kernel.specs.Kernels.{padded}
use Rattle.kernel_drafts.proofs.tables.table.Given as goal

abbrev pub invariant-loop-i : goal.invariant-loop-i
invariant-loop-i l = l.list.items ++ padded (l.length - l.i) (drop l.i l.values) ≡ padded l.length l.values
