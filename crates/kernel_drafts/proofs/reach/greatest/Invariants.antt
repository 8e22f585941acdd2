use Rattle.std.proofs.Common.{◌≡◌, max, drop}
use Rattle.forec_kernel.specs.WellFormed.{greatest}
use Rattle.kernel_drafts.specs.Reach.{value_at}
use Rattle.kernel_drafts.proofs.reach.greatest.Given as goal

abbrev pub invariant-loop-function : goal.invariant-loop-function
invariant-loop-function l = max l.most (greatest (value_at l.table) (drop l.function-index l.functions)) ≡ greatest (value_at l.table) l.fn.functions
