use Rattle.std.proofs.Common.{◌≡◌, ◌+◌, ◌-◌, ◌^◌, ◌≤◌, min, drop}
use Rattle.forec_tree.specs.Plain as plain
use Rattle.text_sizes.specs.TermCounts.{slots_all}
use Rattle.text_sizes.specs.Spans.{slots_at}
use Rattle.text_sizes.proofs.span.+slots.Given as goal

abbrev pub invariant-all_slots-loop-s : goal.invariant-all_slots-loop-s
invariant-all_slots-loop-s l =
    record {
      small : l.total ≤ 2 ^ 64 - 1;
      told : min (l.total + slots_all (slots_at l.table) (plain.statements (drop l.s-index l.list))) (2 ^ 64 - 1) ≡ min (slots_all (slots_at l.table) (plain.statements l.fn.list)) (2 ^ 64 - 1);
    }
