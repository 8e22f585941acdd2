use Rattle.std.proofs.Common.{◌≡◌, ◌+◌, ◌-◌, ◌^◌, ◌≤◌, min, drop}
use Rattle.forec_tree.specs.Plain as plain
use Rattle.forec_tree.specs.Threads as threads
use Rattle.forec_check.specs.Instances.{count_at}
use Rattle.forec_check.proofs.instances.+count.Given as goal

abbrev pub invariant-count_statements-loop-s : goal.invariant-count_statements-loop-s
invariant-count_statements-loop-s l =
    record {
      small : l.total ≤ 2 ^ 64 - 1;
      told : min (l.total + threads.below_all (count_at l.table) (plain.statements (drop l.s-index l.list))) (2 ^ 64 - 1)
          ≡ min (threads.below_all (count_at l.table) (plain.statements l.fn.list)) (2 ^ 64 - 1);
    }

abbrev pub invariant-count_branches-loop-branch : goal.invariant-count_branches-loop-branch
invariant-count_branches-loop-branch l =
    record {
      small : l.total ≤ 2 ^ 64 - 1;
      told : min (l.total + threads.below_branches (count_at l.table) (plain.branches (drop l.branch-index l.list))) (2 ^ 64 - 1)
          ≡ min (threads.below_branches (count_at l.table) (plain.branches l.fn.list)) (2 ^ 64 - 1);
    }
