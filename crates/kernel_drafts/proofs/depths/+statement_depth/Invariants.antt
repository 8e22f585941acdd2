use Rattle.std.proofs.Common.{◌≡◌, ◌-◌, ◌^◌, ◌≤◌, min, max, drop}
use Rattle.forec_kernel.specs.Plain as kernel
use Rattle.forec_kernel.specs.WellFormed as of
use Rattle.kernel_drafts.proofs.depths.+statement_depth.Given as goal

abbrev pub invariant-list_depth-loop-s : goal.invariant-list_depth-loop-s
invariant-list_depth-loop-s l =
    record {
      small : l.most ≤ 2 ^ 64 - 1;
      told : min (max l.most (of.stmts_depth (kernel.stmts (drop l.s-index l.list)))) (2 ^ 64 - 1) ≡ min (of.stmts_depth (kernel.stmts l.fn.list)) (2 ^ 64 - 1);
    }
