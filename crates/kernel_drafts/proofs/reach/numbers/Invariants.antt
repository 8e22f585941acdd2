use Rattle.std.proofs.Common.{◌≡◌}
use Rattle.forec_kernel.specs.WellFormed.{count_up}
use Rattle.kernel_drafts.proofs.reach.numbers.Given as goal

abbrev pub invariant-loop-i : goal.invariant-loop-i
invariant-loop-i l = l.list.items ≡ count_up 0 l.i
