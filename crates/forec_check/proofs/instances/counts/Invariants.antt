use Rattle.loop_check.specs.Views.{indexed_text}
use Rattle.forec_check.specs.Table.{Agrees}
use Rattle.forec_check.specs.Instances.{count_at, count_of}
use Rattle.forec_check.proofs.instances.counts.Given as goal

abbrev pub invariant-loop-f : goal.invariant-loop-f
invariant-loop-f l = Agrees 0 (count_of (indexed_text l.index)) l.order l.f-index (count_at l.table.items)
