use Rattle.std.proofs.Common.{◌≡◌, ◌+◌, ◌-◌, ◌^◌, ◌≤◌, drop}
use Rattle.forec_tree.specs.Plain as plain
use Rattle.text_chains.specs.Tallies as of
use Rattle.text_chains.specs.Tallies.{tally_at}
use Rattle.text_chains.specs.Views.{value_by}
use Rattle.text_chains.proofs.bodies.+statement.Given as goal

abbrev pub invariant-all-loop-s : goal.invariant-all-loop-s
invariant-all-loop-s l =
    record {
      small : l.total.words ≤ 2 ^ 64 - 1;
      told : of.both_tallies l.total (of.all_tally l.w.variable l.w.array (value_by l.w) l.w.worth (tally_at l.table) l.now_hidden (plain.statements (drop l.s-index l.list)))
          ≡ of.all_tally l.fn.w.variable l.fn.w.array (value_by l.fn.w) l.fn.w.worth (tally_at l.fn.table) l.fn.hidden (plain.statements l.fn.list);
    }

abbrev pub invariant-branches-loop-b : goal.invariant-branches-loop-b
invariant-branches-loop-b l =
    record {
      small : l.total.tally.words ≤ 2 ^ 64 - 1;
      few : l.total.naming ≤ l.b-index;
      told : of.both_tallies l.total.tally (of.branches_tally l.w.variable l.w.array (value_by l.w) l.w.worth (tally_at l.table) l.hidden (plain.branches (drop l.b-index l.list)))
          ≡ of.branches_tally l.fn.w.variable l.fn.w.array (value_by l.fn.w) l.fn.w.worth (tally_at l.fn.table) l.fn.hidden (plain.branches l.fn.list);
      naming : l.total.naming + of.branches_naming l.w.variable l.w.array (value_by l.w) l.w.worth (tally_at l.table) (plain.branches (drop l.b-index l.list))
          ≡ of.branches_naming l.fn.w.variable l.fn.w.array (value_by l.fn.w) l.fn.w.worth (tally_at l.fn.table) (plain.branches l.fn.list);
    }
