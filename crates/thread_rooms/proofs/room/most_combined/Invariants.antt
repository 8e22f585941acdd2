use Rattle.std.proofs.Common.{◌≡◌, ◌<◌, ◌≤◌, ℕ, Some, get_or}
use Rattle.forec_kernel.specs.Combining.{variable_of}
use Rattle.forec_kernel.specs.Shapes.{plain_shape}
use Rattle.thread_code.specs.Valid.{of_shape}
use Rattle.thread_rooms.proofs.room.most_combined.Given as goal

abbrev pub invariant-loop-i : goal.invariant-loop-i
invariant-loop-i l = (k f : ℕ) → k < l.i → (variable_of (of_shape (plain_shape l.shape)) (get_or l.uses k 0)).combine ≡ Some f → get_or l.needs f 0 ≤ l.most
