use Rattle.std.proofs.Common.{take}
use Rattle.loop_check.specs.Graph.{callees}
use Rattle.loop_check.specs.Views.{indexed_text}
use Rattle.loop_check.specs.Known.{Read, started_in}
use Rattle.loop_check.proofs.table.read_calls.Given as goal

abbrev pub invariant-loop-at : goal.invariant-loop-at
invariant-loop-at l = Read started_in (take l.at (indexed_text l.index)) l.calls.functions.items (callees l.calls.lists.items)
