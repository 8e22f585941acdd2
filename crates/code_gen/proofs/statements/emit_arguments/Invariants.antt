use Rattle.std.proofs.Common.{◌≡◌, ◌++◌, length, drop, map}
use Rattle.forec_kernel.specs.Plain.{branch}
use Rattle.code_gen.specs.Statements.{arguments_code}
use Rattle.code_gen.proofs.statements.emit_arguments.Given as goal

abbrev pub invariant-loop-launch : goal.invariant-loop-launch
invariant-loop-launch l =
    l.steps.items ++ arguments_code (length l.steps.items) (map branch (drop l.launch-index l.branches)) ≡ l.fn.steps.items ++ arguments_code (length l.fn.steps.items) (map branch l.fn.branches)
