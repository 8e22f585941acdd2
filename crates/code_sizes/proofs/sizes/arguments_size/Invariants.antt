use Rattle.std.proofs.Common.{◌≡◌, ◌+◌, drop, map}
use Rattle.forec_kernel.specs.Plain.{branch}
use Rattle.code_sizes.specs.Sizes.{arguments_length}
use Rattle.code_sizes.proofs.sizes.arguments_size.Given as goal

abbrev pub invariant-loop-launch : goal.invariant-loop-launch
invariant-loop-launch l = l.sum + arguments_length (map branch (drop l.launch-index l.branches)) ≡ arguments_length (map branch l.fn.branches)
