use Rattle.std.proofs.Common.{◌≡◌, length}
use Rattle.thread_rooms.proofs.room.+fill.Given as goal

abbrev pub decreases-fill : goal.decreases-fill
decreases-fill l = l.fuel

abbrev pub invariant-loop-step : goal.invariant-loop-step
invariant-loop-step l = length l.needs.items ≡ length l.initial.needs.items
