use Rattle.std.proofs.Common.{drop, map}
use Rattle.forec_kernel.specs.Plain.{branch}
use Rattle.forec_kernel.specs.Shapes.{plain_kernel}
use Rattle.forec_kernel.specs.Values.{setting}
use Rattle.forec_kernel.specs.Steps.{arguments}
use Rattle.running_texts.specs.Metered.{sight_of}
use Rattle.running_steps.proofs.Arguments.{ListsSoFar}
use Rattle.running_steps.proofs.statements.arguments_of.Given as goal

abbrev pub invariant-loop-launch : goal.invariant-loop-launch
invariant-loop-launch l =
    ListsSoFar l.initial.left l.left (map (λ v. v.items) l.all.items)
    (arguments (setting (plain_kernel l.kernel)) (sight_of l.values) (map branch l.branches))
    (arguments (setting (plain_kernel l.kernel)) (sight_of l.values) (map branch (drop l.launch-index l.branches)))
