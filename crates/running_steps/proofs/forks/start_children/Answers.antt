use Rattle.std.proofs.Common.{arith}
use Rattle.forec_kernel.specs.Shapes.{plain_kernel}
use Rattle.running_texts.proofs.Kernels.{started_none}
use Rattle.running_steps.proofs.forks.start_children.Goals as goal

pub loop-at-init : goal.loop-at-init
loop-at-init c = (
  omega arith,
  omega arith,
  started_none (record { kernel = plain_kernel c.args.kernel.now; uses = c.args.uses.now }) c.args.copies.now c.args.branches.now c.args.arguments.now
      c.min-at.result c.min-at.ensures,
)
