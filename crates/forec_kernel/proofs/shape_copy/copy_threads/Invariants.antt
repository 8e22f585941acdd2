use Rattle.std.proofs.Common.{◌≡◌, map, take}
use Rattle.forec_kernel.specs.Shapes.{plain_thread}
use Rattle.forec_kernel.proofs.shape_copy.copy_threads.Given as goal

abbrev pub invariant-loop-thread : goal.invariant-loop-thread
invariant-loop-thread l = map plain_thread l.copies.items ≡ map plain_thread (take l.thread-index l.threads)
