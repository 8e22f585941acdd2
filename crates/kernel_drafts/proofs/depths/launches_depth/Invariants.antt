use Rattle.std.proofs.Common.{◌≡◌, ◌-◌, ◌^◌, ◌≤◌, min, max, drop, map}
use Rattle.forec_kernel.specs.Plain as kernel
use Rattle.forec_kernel.specs.WellFormed as of
use Rattle.kernel_drafts.proofs.depths.launches_depth.Given as goal

abbrev pub invariant-loop-launch : goal.invariant-loop-launch
invariant-loop-launch l =
    record {
      small : l.most ≤ 2 ^ 64 - 1;
      told : min (max l.most (of.branches_depth (map kernel.branch (drop l.launch-index l.launches)))) (2 ^ 64 - 1) ≡ min (of.branches_depth (map kernel.branch l.fn.launches)) (2 ^ 64 - 1);
    }
