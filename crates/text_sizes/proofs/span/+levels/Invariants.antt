use Rattle.std.proofs.Common.{◌≡◌, ◌-◌, ◌^◌, ◌≤◌, min, max, drop}
use Rattle.forec_tree.specs.Plain as plain
use Rattle.text_sizes.specs.Spans.{levels_all, levels_at}
use Rattle.text_sizes.proofs.span.+levels.Given as goal

abbrev pub invariant-all_levels-loop-s : goal.invariant-all_levels-loop-s
invariant-all_levels-loop-s l =
    record {
      small : l.most ≤ 2 ^ 64 - 1;
      told : min (max l.most (levels_all (levels_at l.table) (plain.statements (drop l.s-index l.list)))) (2 ^ 64 - 1) ≡ min (levels_all (levels_at l.table) (plain.statements l.fn.list)) (2 ^ 64 - 1);
    }
