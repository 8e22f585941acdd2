use Rattle.std.proofs.Common.{◌≡◌, ◌++◌, map, drop}
use Rattle.kernel_drafts.specs.Measures.{depth_of_body}
use Rattle.kernel_drafts.proofs.measure.function_depths.Given as goal

abbrev pub invariant-loop-body : goal.invariant-loop-body
invariant-loop-body l = l.list.items ++ map depth_of_body (drop l.body-index l.bodies) ≡ map depth_of_body l.fn.bodies
