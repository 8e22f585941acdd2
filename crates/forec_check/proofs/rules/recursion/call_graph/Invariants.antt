use Rattle.std.proofs.Common.{take}
use Rattle.loop_check.specs.Graph.{callees}
use Rattle.loop_check.specs.Views.{indexed_text}
use Rattle.loop_check.specs.Known.{Read}
use Rattle.forec_check.specs.Early.{function_calls}
use Rattle.forec_check.proofs.rules.recursion.call_graph.Given as goal

abbrev pub invariant-loop-at : goal.invariant-loop-at
invariant-loop-at l = Read (function_calls (indexed_text l.index)) (take l.at (indexed_text l.index)) l.calls.functions.items (callees l.calls.lists.items)
