use Rattle.std.proofs.Common.{◌≡◌, drop}
use Rattle.forec_kernel.specs.Combining.{contains}
use Rattle.board_hosts.proofs.hosts.has_threads.Given as goal

abbrev pub invariant-loop-thread : goal.invariant-loop-thread
invariant-loop-thread l = contains l.core l.placement.places ≡ contains l.core (drop l.thread l.placement.places)
