use Rattle.loop_check.specs.Views.{indexed_text}
use Rattle.forec_check.specs.Table.{Agrees}
use Rattle.text_chains.specs.Tallies.{no_tally, tally_at, tally_value}
use Rattle.text_chains.specs.Views.{value_by}
use Rattle.text_chains.proofs.peaks.table_of.Given as goal

abbrev pub invariant-loop-f : goal.invariant-loop-f
invariant-loop-f l = Agrees no_tally (tally_value l.w.variable l.w.array (value_by l.w) l.w.worth (indexed_text l.w.globals.now.index)) l.order l.f-index (tally_at l.table.items)
