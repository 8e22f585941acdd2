use Rattle.std.proofs.Common.{◌≡◌, ◌-◌, ◌^◌, ◌≤◌, drop, map}
use Rattle.forec_tree.specs.Plain as plain
use Rattle.text_chains.specs.Tallies as of
use Rattle.text_chains.specs.Views.{value_by}
use Rattle.text_chains.proofs.terms.locals.Given as goal

abbrev pub invariant-loop-l : goal.invariant-loop-l
invariant-loop-l l =
    record {
      small : l.total.words ≤ 2 ^ 64 - 1;
      told : of.both_tallies l.total (of.of_locals l.w.variable l.w.array (value_by l.w) l.now_hidden (map plain.declared (drop l.l-index l.list))) ≡ of.of_locals l.fn.w.variable l.fn.w.array (value_by l.fn.w) l.fn.hidden (map plain.declared l.fn.list);
    }
