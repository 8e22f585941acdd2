use Rattle.std.proofs.Common.{◌≡◌, ℕ}
use Rattle.forec_kernel.specs.Shapes.{plain_kernel}
use Rattle.forec_kernel.specs.Ticks.{Going}
use Rattle.running_threads.specs.Views.{plain_running_thread}
use Rattle.kernel_meaning.specs.States.{Along}
use Rattle.kernel_meaning.proofs.Running.{size_of}
use Rattle.kernel_meaning.proofs.ticks.run_free.Given as goal

abbrev pub invariant-free : goal.invariant-free
invariant-free l =
    record {
      on : (budget : ℕ) (from : Going) → Along (plain_kernel l.kernel) budget from (plain_running_thread l.initial.main) l.initial.left →
          Along (plain_kernel l.kernel) budget from (plain_running_thread l.main) l.left;
      same : l.left ≡ l.before;
    }

abbrev pub decreases-free : goal.decreases-free
decreases-free l = size_of (plain_running_thread l.main)
