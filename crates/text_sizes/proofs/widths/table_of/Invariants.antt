use Rattle.loop_check.specs.Views.{indexed_text}
use Rattle.forec_check.specs.Table.{Agrees}
use Rattle.text_sizes.specs.Spans.{no_span, span_at, span_value}
use Rattle.text_sizes.proofs.widths.table_of.Given as goal

abbrev pub invariant-loop-f : goal.invariant-loop-f
invariant-loop-f l = Agrees no_span (span_value (indexed_text l.index)) l.order l.f-index (span_at l.table.items)
