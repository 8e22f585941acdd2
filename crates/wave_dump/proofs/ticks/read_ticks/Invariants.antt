use Rattle.std.proofs.Common.{◌≡◌, ℕ, ◌-◌, ◌≤◌, List, length}
use Rattle.wave_dump.specs.Machine.{Start, olds_of}
use Rattle.wave_dump.specs.Reading.{dump_from, dump_between, olds_at}
use Rattle.wave_dump.specs.Dumps.{plain_ticks}
use Rattle.wave_dump.proofs.ticks.read_ticks.Given as goal

abbrev pub invariant-loop-alloc : goal.invariant-loop-alloc
invariant-loop-alloc l =
    record {
      within : l.at ≤ length l.bytes;
      count : length l.values ≡ length l.fn.values;
      olds : (names : List (List ℕ)) → length names ≡ length l.fn.values → olds_of names (plain_ticks l.ticks.items) ≡ olds_at l.first l.values;
      same : (names : List (List ℕ)) → length names ≡ length l.fn.values → dump_from l.bytes l.start (Start names) ≡ dump_between l.bytes l.at names (plain_ticks l.ticks.items);
    }

abbrev pub decreases-loop-alloc : goal.decreases-loop-alloc
decreases-loop-alloc l = length l.bytes - l.at
