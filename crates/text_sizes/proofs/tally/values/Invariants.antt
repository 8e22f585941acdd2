use Rattle.std.proofs.Common.{◌≡◌, ◌+◌, ◌-◌, ◌^◌, ◌≤◌, min, drop}
use Rattle.forec_tree.specs.Plain as plain
use Rattle.text_sizes.specs.TermCounts as counts
use Rattle.text_sizes.proofs.tally.values.Given as goal

abbrev pub invariant-loop-e : goal.invariant-loop-e
invariant-loop-e l =
    record {
      small : l.total ≤ 2 ^ 64 - 1;
      told : min (l.total + counts.values_count (plain.terms (drop l.e-index l.list))) (2 ^ 64 - 1) ≡ min (counts.values_count (plain.terms l.fn.list)) (2 ^ 64 - 1);
    }
