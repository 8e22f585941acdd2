use Rattle.std.proofs.Common.{◌≡◌, ◌+◌, ◌*◌, cond, false, length}
use Rattle.loop_check.specs.Graph.{callees, trues, MarksUnordered, Held}
use Rattle.loop_check.proofs.graph.order.Given as goal

abbrev pub invariant-loop-f : goal.invariant-loop-f
invariant-loop-f l = MarksUnordered l.functions (callees l.calls) l.marks.items l.order.items

abbrev pub invariant-loop-moved : goal.invariant-loop-moved
invariant-loop-moved l =
    MarksUnordered l.functions (callees l.calls) l.marks.items l.order.items
    × (l.moved ≡ false → Held l.functions (callees l.calls) l.marks.items (length l.functions))

abbrev pub decreases-loop-moved : goal.decreases-loop-moved
decreases-loop-moved l = 2 * trues l.marks.items + cond l.moved 1 0
