use Rattle.std.proofs.Common.{◌≡◌, length}
use Rattle.forec_kernel.specs.Shapes.{plain_kernel}
use Rattle.tick_bounds.proofs.Tables.{TellsFrom}
use Rattle.tick_bounds.proofs.threads.thread_bounds.Given as goal

abbrev pub invariant-loop-thread : goal.invariant-loop-thread
invariant-loop-thread l =
    record {
      long : length l.bounds.items ≡ length l.bodies;
      told : TellsFrom (plain_kernel l.kernel) l.bounds.items l.thread;
    }
