use Rattle.std.proofs.Common.{◌≡◌, ◌+◌, ◌-◌, ◌^◌, ◌≤◌, min, drop}
use Rattle.forec_tree.specs.Plain as plain
use Rattle.text_sizes.specs.TermCounts as counts
use Rattle.text_sizes.proofs.tally.branch_terms.Given as goal

abbrev pub invariant-loop-branch : goal.invariant-loop-branch
invariant-loop-branch l =
    record {
      small : l.total ≤ 2 ^ 64 - 1;
      told : min (l.total + counts.branches_count (plain.branches (drop l.branch-index l.branches))) (2 ^ 64 - 1) ≡ min (counts.branches_count (plain.branches l.fn.branches)) (2 ^ 64 - 1);
    }
