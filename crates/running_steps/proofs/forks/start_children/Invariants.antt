use Rattle.std.proofs.Common.{◌≡◌, ◌≤◌, length, drop, map}
use Rattle.forec_kernel.specs.Plain.{branch}
use Rattle.forec_kernel.specs.Shapes.{plain_kernel}
use Rattle.forec_kernel.specs.Steps.{started}
use Rattle.running_threads.specs.Views.{threads}
use Rattle.running_steps.proofs.forks.start_children.Given as goal

abbrev pub invariant-loop-at : goal.invariant-loop-at
invariant-loop-at l =
    (l.at ≤ length l.branches) × (l.at ≤ length l.arguments)
    × (threads l.rest
    ≡ started (record { kernel = plain_kernel l.kernel; uses = l.uses }) l.copies (map branch (drop l.at l.branches))
    (map (λ v. v.items) (drop l.at l.arguments)))

abbrev pub decreases-loop-at : goal.decreases-loop-at
decreases-loop-at l = l.at
