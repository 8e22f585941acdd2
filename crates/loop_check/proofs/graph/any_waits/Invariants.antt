use Rattle.std.proofs.Common.{◌≡◌, drop}
use Rattle.loop_check.specs.Graph as plain
use Rattle.loop_check.proofs.graph.any_waits.Given as goal

abbrev pub invariant-loop-id : goal.invariant-loop-id
invariant-loop-id l = plain.any_waits l.marks (drop l.id-index l.list) ≡ plain.any_waits l.marks l.fn.list
