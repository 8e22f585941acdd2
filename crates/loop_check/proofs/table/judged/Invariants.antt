use Rattle.loop_check.specs.Views.{indexed_text}
use Rattle.forec_tree.specs.Pauses as pauses
use Rattle.loop_check.specs.Known.{known, IsRightTable}
use Rattle.loop_check.proofs.table.judged.Given as goal

abbrev pub invariant-loop-f : goal.invariant-loop-f
invariant-loop-f l = IsRightTable (pauses.certain_step (indexed_text l.index)) l.order l.f-index (known l.called.items)
