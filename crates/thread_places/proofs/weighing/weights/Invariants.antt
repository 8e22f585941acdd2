use Rattle.std.proofs.Common.{◌≡◌, ◌++◌, drop, map}
use Rattle.forec_kernel.specs.Shapes.{plain_kernel}
use Rattle.forec_kernel.specs.Weight.{stmt_weight}
use Rattle.thread_places.specs.Placed.{weights_of}
use Rattle.thread_places.proofs.weighing.weights.Given as goal

abbrev pub invariant-loop-thread : goal.invariant-loop-thread
invariant-loop-thread l =
    l.list.items ++ map stmt_weight (drop l.thread (plain_kernel l.kernel).threads) ≡ weights_of (plain_kernel l.kernel)
