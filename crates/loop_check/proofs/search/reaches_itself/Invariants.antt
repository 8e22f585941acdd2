use Rattle.std.proofs.Common.{◌+◌, ◌*◌, length}
use Rattle.loop_check.specs.Graph.{callees, trues}
use Rattle.loop_check.proofs.Searched.{Searching}
use Rattle.loop_check.proofs.search.reaches_itself.Given as goal

abbrev pub invariant-loop-g : goal.invariant-loop-g
invariant-loop-g l = Searching l.functions (callees l.calls) l.f l.waiting.items l.rest.items

abbrev pub decreases-loop-g : goal.decreases-loop-g
decreases-loop-g l = 2 * trues l.waiting.items + length l.rest.items
