use Rattle.std.proofs.Common.{◌≡◌, ◌-◌, ◌^◌, ◌≤◌, min, max, drop}
use Rattle.forec_kernel.specs.Plain as kernel
use Rattle.forec_kernel.specs.WellFormed as of
use Rattle.kernel_drafts.proofs.depths.+expression_depth.Given as goal

abbrev pub invariant-all_depths-loop-e : goal.invariant-all_depths-loop-e
invariant-all_depths-loop-e l =
    record {
      small : l.most ≤ 2 ^ 64 - 1;
      told : min (max l.most (of.exprs_depth (kernel.exprs (drop l.e-index l.list)))) (2 ^ 64 - 1) ≡ min (of.exprs_depth (kernel.exprs l.fn.list)) (2 ^ 64 - 1);
    }
