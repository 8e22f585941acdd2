use Rattle.std.proofs.Common.{◌≡◌, ◌++◌, drop}
use Rattle.forec_kernel.specs.Plain as kernel
use Rattle.forec_kernel.specs.WellFormed as of
use Rattle.kernel_calls.proofs.+expression_calls.Given as goal

abbrev pub invariant-all_calls-loop-e : goal.invariant-all_calls-loop-e
invariant-all_calls-loop-e l = l.calls.items ++ of.calls_in (kernel.exprs (drop l.e-index l.list)) ≡ l.fn.calls.items ++ of.calls_in (kernel.exprs l.fn.list)
