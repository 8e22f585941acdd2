use Rattle.std.proofs.Common.{◌≡◌, ◌<◌, true, false}
use Rattle.loop_check.specs.Graph.{callees, trues, MarksUnordered, Held}
use Rattle.loop_check.proofs.graph.round.Given as goal

abbrev pub invariant-loop-f : goal.invariant-loop-f
invariant-loop-f l =
    MarksUnordered l.functions (callees l.calls) l.marks.items l.order.items
    × (l.moved ≡ true → trues l.marks.items < trues l.initial.marks.items)
    × (l.moved ≡ false → l.marks.items ≡ l.initial.marks.items)
    × (l.moved ≡ false → Held l.functions (callees l.calls) l.marks.items l.f-index)
