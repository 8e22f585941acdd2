use Rattle.std.proofs.Common.{take}
use Rattle.loop_check.proofs.Searched.{Followed}
use Rattle.loop_check.proofs.search.follow.Given as goal

abbrev pub invariant-loop-g : goal.invariant-loop-g
invariant-loop-g l = Followed (take l.g-index l.list) l.fn.waiting.items l.waiting.items l.fn.rest.items l.rest.items
