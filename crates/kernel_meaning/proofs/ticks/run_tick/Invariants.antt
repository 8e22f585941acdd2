use Rattle.std.proofs.Common.{ℕ, ◌+◌, ◌*◌, cond}
use Rattle.forec_kernel.specs.Shapes.{plain_kernel}
use Rattle.forec_kernel.specs.Texts.{is_running}
use Rattle.forec_kernel.specs.Ticks.{Going}
use Rattle.running_threads.specs.Views.{plain_running_thread, plain_status}
use Rattle.kernel_meaning.specs.States.{Along}
use Rattle.kernel_meaning.proofs.ticks.run_tick.Given as goal

abbrev pub invariant-steps : goal.invariant-steps
invariant-steps l =
    (budget : ℕ) (from : Going) → Along (plain_kernel l.kernel) budget from (plain_running_thread l.initial.main) l.initial.left →
    Along (plain_kernel l.kernel) budget from (plain_running_thread l.main) l.left

abbrev pub decreases-steps : goal.decreases-steps
decreases-steps l = 2 * l.left + cond (is_running (plain_status l.main.status)) 1 0
