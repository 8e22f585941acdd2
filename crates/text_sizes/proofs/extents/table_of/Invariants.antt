use Rattle.loop_check.specs.Views.{indexed_text}
use Rattle.forec_check.specs.Table.{Agrees}
use Rattle.text_sizes.specs.Extents.{no_extent, extent_at, extent_value}
use Rattle.text_sizes.proofs.extents.table_of.Given as goal

abbrev pub invariant-loop-f : goal.invariant-loop-f
invariant-loop-f l = Agrees no_extent (extent_value (indexed_text l.index)) l.order l.f-index (extent_at l.table.items)
