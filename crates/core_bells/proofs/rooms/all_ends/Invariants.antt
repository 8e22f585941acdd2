use Rattle.std.proofs.Common.{◌≡◌}
use Rattle.forec_kernel.specs.Shapes.{plain_shape}
use Rattle.core_bells.specs.Rooms.{ends_of_first}
use Rattle.core_bells.proofs.rooms.all_ends.Given as goal

abbrev pub invariant-loop-mailbox : goal.invariant-loop-mailbox
invariant-loop-mailbox l = l.ends.items ≡ ends_of_first (plain_shape l.fn.shape) l.fn.places l.mailbox
