use Rattle.std.proofs.Common.{◌≡◌, ◌+◌, ◌-◌, ◌^◌, ◌≤◌, min, drop}
use Rattle.forec_tree.specs.Plain as plain
use Rattle.text_sizes.specs.TermCounts.{own_all}
use Rattle.text_sizes.specs.Extents.{own_at}
use Rattle.text_sizes.proofs.extents.+own.Given as goal

abbrev pub invariant-all_own-loop-s : goal.invariant-all_own-loop-s
invariant-all_own-loop-s l =
    record {
      small : l.total ≤ 2 ^ 64 - 1;
      told : min (l.total + own_all (own_at l.table) (plain.statements (drop l.s-index l.list))) (2 ^ 64 - 1) ≡ min (own_all (own_at l.table) (plain.statements l.fn.list)) (2 ^ 64 - 1);
    }
