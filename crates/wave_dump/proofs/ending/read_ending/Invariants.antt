use Rattle.std.proofs.Common.{◌≡◌, ℕ, ℤ, ◌-◌, ◌≤◌, List, [], length}
use Rattle.wave_dump.specs.Machine.{Ending}
use Rattle.wave_dump.specs.Reading.{dump_from}
use Rattle.wave_dump.proofs.EndingLemmas.{between_places}
use Rattle.wave_dump.proofs.ending.read_ending.Given as goal

abbrev pub invariant-loop-end : goal.invariant-loop-end
invariant-loop-end l =
    record {
      low : l.start ≤ l.end;
      within : l.end ≤ length l.bytes;
      same : (names : List (List ℕ)) (ticks : List (List ℤ)) → dump_from l.bytes l.start (Ending names ticks []) ≡ dump_from l.bytes l.end (Ending names ticks (between_places l.bytes l.start l.end));
    }

abbrev pub decreases-loop-end : goal.decreases-loop-end
decreases-loop-end l = length l.bytes - l.end
