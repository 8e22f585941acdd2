use Rattle.std.proofs.Common.{◌≡◌, ◌-◌, ◌^◌, ◌≤◌, min, max, drop}
use Rattle.forec_tree.specs.Plain as plain
use Rattle.text_sizes.specs.Spans.{most_all, most_branches}
use Rattle.text_sizes.specs.Measures.{call_by, block_by, below_by}
use Rattle.text_sizes.proofs.widths.+most.Given as goal

abbrev pub invariant-all_most-loop-s : goal.invariant-all_most-loop-s
invariant-all_most-loop-s l =
    let F = most_all (call_by l.measure l.table) (block_by l.measure l.table) (below_by l.measure l.table) in
    record {
      small : l.greatest ≤ 2 ^ 64 - 1;
      told : min (max l.greatest (F (plain.statements (drop l.s-index l.list)))) (2 ^ 64 - 1) ≡ min (F (plain.statements l.fn.list)) (2 ^ 64 - 1);
    }

abbrev pub invariant-branches_most-loop-branch : goal.invariant-branches_most-loop-branch
invariant-branches_most-loop-branch l =
    let F = most_branches (call_by l.measure l.table) (block_by l.measure l.table) (below_by l.measure l.table) in
    record {
      small : l.greatest ≤ 2 ^ 64 - 1;
      told : min (max l.greatest (F (plain.branches (drop l.branch-index l.list)))) (2 ^ 64 - 1) ≡ min (F (plain.branches l.fn.list)) (2 ^ 64 - 1);
    }
