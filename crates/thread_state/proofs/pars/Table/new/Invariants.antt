use Rattle.std.proofs.Common.{◌≡◌, ◌≤◌, length, map}
use Rattle.forec_kernel.specs.Shapes.{plain_shape}
use Rattle.thread_state.proofs.Links.{LinkedFrom}
use Rattle.thread_state.proofs.pars.Table.new.Given as goal

abbrev pub invariant-loop-thread : goal.invariant-loop-thread
invariant-loop-thread l = record {
  within : l.thread ≤ length l.shape.threads.items;
  linked : LinkedFrom (plain_shape l.shape) l.pars l.thread;
  uses : l.pars.uses ≡ map (λ t. t.uses) (plain_shape l.shape).threads;
}

abbrev pub decreases-loop-thread : goal.decreases-loop-thread
decreases-loop-thread l = l.thread
