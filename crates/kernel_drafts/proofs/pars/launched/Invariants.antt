use Rattle.std.proofs.Common.{◌≡◌, ◌++◌, drop, map}
use Rattle.forec_kernel.specs.Plain as kernel
use Rattle.forec_kernel.specs.WellFormed as of
use Rattle.kernel_drafts.proofs.pars.launched.Given as goal

abbrev pub invariant-loop-launch : goal.invariant-loop-launch
invariant-loop-launch l = l.list.items ++ of.threads_in (map kernel.branch (drop l.launch-index l.launches)) ≡ of.threads_in (map kernel.branch l.fn.launches)
