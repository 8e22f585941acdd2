use Rattle.std.proofs.Common.{◌≡◌, ℕ, ◌-◌, ◌≤◌, List, [], length, string_bytes}
use Rattle.wave_dump.specs.Machine.{Name}
use Rattle.wave_dump.specs.Reading.{dump_from}
use Rattle.wave_dump.proofs.names.read_name.Given as goal

abbrev pub invariant-loop-at : goal.invariant-loop-at
invariant-loop-at l =
    record {
      low : l.start ≤ l.at;
      within : l.at ≤ length l.bytes;
      same : (names : List (List ℕ)) → dump_from l.bytes l.start (Name names []) ≡ dump_from l.bytes l.at (Name names (string_bytes l.name));
    }

abbrev pub decreases-loop-at : goal.decreases-loop-at
decreases-loop-at l = length l.bytes - l.at
