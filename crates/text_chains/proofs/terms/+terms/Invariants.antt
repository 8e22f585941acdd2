use Rattle.std.proofs.Common.{◌≡◌, ◌-◌, ◌^◌, ◌≤◌, drop}
use Rattle.forec_tree.specs.Plain as plain
use Rattle.text_chains.specs.Tallies as of
use Rattle.text_chains.specs.Views.{value_by}
use Rattle.text_chains.proofs.terms.+terms.Given as goal

abbrev pub invariant-terms-loop-e : goal.invariant-terms-loop-e
invariant-terms-loop-e l =
    record {
      small : l.total.words ≤ 2 ^ 64 - 1;
      told : of.both_tallies l.total (of.of_terms l.w.variable l.w.array (value_by l.w) l.hidden (plain.terms (drop l.e-index l.list))) ≡ of.of_terms l.fn.w.variable l.fn.w.array (value_by l.fn.w) l.fn.hidden (plain.terms l.fn.list);
    }
