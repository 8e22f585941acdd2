use Rattle.forec_kernel.specs.Shapes.{plain_shape}
use Rattle.thread_code.specs.Valid.{of_shape}
use Rattle.core_machine.specs.Counting.{ArePassed}
use Rattle.core_machine.proofs.counted.next_counted.Given as goal

abbrev pub invariant-loop-i : goal.invariant-loop-i
invariant-loop-i l = ArePassed (of_shape (plain_shape l.shape)) l.uses l.copies l.from l.i
