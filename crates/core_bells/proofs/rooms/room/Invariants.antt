use Rattle.std.proofs.Common.{◌≡◌, ◌≤◌, ◌+◌, ◌*◌, drop}
use Rattle.core_bells.specs.Rooms.{ends_on}
use Rattle.core_bells.proofs.rooms.room.Given as goal

abbrev pub invariant-loop-parent : goal.invariant-loop-parent
invariant-loop-parent l = record {
  counted : l.count + ends_on l.core (drop l.parent-index l.ends) ≡ ends_on l.core l.ends;
  few : l.count ≤ 2 * l.parent-index;
}
