use Rattle.std.proofs.Common.{◌≡◌, ◌++◌, drop, map}
use Rattle.forec_kernel.specs.Plain as kernel
use Rattle.forec_kernel.specs.WellFormed as of
use Rattle.kernel_calls.proofs.launch_calls.Given as goal

abbrev pub invariant-loop-launch : goal.invariant-loop-launch
invariant-loop-launch l = l.calls.items ++ of.branch_calls (map kernel.branch (drop l.launch-index l.launches)) ≡ l.fn.calls.items ++ of.branch_calls (map kernel.branch l.fn.launches)
