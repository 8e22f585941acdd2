use Rattle.std.proofs.Common.{◌≡◌, false, take}
use Rattle.core_seats.specs.Loads.{contains_core}
use Rattle.core_seats.proofs.load.is_among.Given as goal

abbrev pub invariant-loop-other : goal.invariant-loop-other
invariant-loop-other l = contains_core l.core (take l.other-index l.cores) ≡ false
