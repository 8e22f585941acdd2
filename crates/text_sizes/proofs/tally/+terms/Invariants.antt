use Rattle.std.proofs.Common.{◌≡◌, ◌+◌, ◌-◌, ◌^◌, ◌≤◌, min, drop}
use Rattle.forec_tree.specs.Plain as plain
use Rattle.text_sizes.specs.TermCounts as counts
use Rattle.text_sizes.proofs.tally.+terms.Given as goal

abbrev pub invariant-all_terms-loop-e : goal.invariant-all_terms-loop-e
invariant-all_terms-loop-e l =
    record {
      small : l.total ≤ 2 ^ 64 - 1;
      told : min (l.total + counts.terms_count (plain.terms (drop l.e-index l.list))) (2 ^ 64 - 1) ≡ min (counts.terms_count (plain.terms l.fn.list)) (2 ^ 64 - 1);
    }
