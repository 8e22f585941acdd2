use Rattle.std.proofs.Common.{◌≡◌, ◌+◌, ◌-◌, ◌^◌, ◌≤◌, min, drop}
use Rattle.forec_tree.specs.Plain as plain
use Rattle.text_sizes.specs.TermCounts.{under_all, under_branches}
use Rattle.text_sizes.specs.Extents.{own_at, under_at}
use Rattle.text_sizes.proofs.extents.+under.Given as goal

abbrev pub invariant-all_under-loop-s : goal.invariant-all_under-loop-s
invariant-all_under-loop-s l =
    record {
      small : l.total ≤ 2 ^ 64 - 1;
      told : min (l.total + under_all (own_at l.table) (under_at l.table) (plain.statements (drop l.s-index l.list))) (2 ^ 64 - 1)
          ≡ min (under_all (own_at l.table) (under_at l.table) (plain.statements l.fn.list)) (2 ^ 64 - 1);
    }

abbrev pub invariant-branches_under-loop-branch : goal.invariant-branches_under-loop-branch
invariant-branches_under-loop-branch l =
    record {
      small : l.total ≤ 2 ^ 64 - 1;
      told : min (l.total + under_branches (own_at l.table) (under_at l.table) (plain.branches (drop l.branch-index l.list))) (2 ^ 64 - 1)
          ≡ min (under_branches (own_at l.table) (under_at l.table) (plain.branches l.fn.list)) (2 ^ 64 - 1);
    }
