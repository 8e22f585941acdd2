use Rattle.std.proofs.Common.{◌≡◌, ◌++◌, map, drop}
use Rattle.forec_kernel.specs.Plain as kernel
use Rattle.forec_kernel.specs.WellFormed as of
use Rattle.kernel_drafts.specs.Reach.{list_items}
use Rattle.kernel_drafts.proofs.reach.body_calls.Given as goal

abbrev pub invariant-loop-body : goal.invariant-loop-body
invariant-loop-body l = map list_items l.lists.items ++ map (λ s. of.stmt_calls (kernel.stmt s)) (drop l.body-index l.bodies) ≡ map (λ s. of.stmt_calls (kernel.stmt s)) l.fn.bodies
