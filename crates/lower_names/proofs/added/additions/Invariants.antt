use Rattle.loop_check.specs.Views.{indexed_text}
use Rattle.lower_names.specs.Additions.{AllAdd}
use Rattle.lower_names.proofs.added.additions.Given as goal

abbrev pub invariant-loop-f : goal.invariant-loop-f
invariant-loop-f l = AllAdd (indexed_text l.index) l.table.items
