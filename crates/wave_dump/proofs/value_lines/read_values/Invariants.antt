use Rattle.std.proofs.Common.{◌≡◌, ℕ, ℤ, ◌-◌, ◌≤◌, List, [], length, take, drop}
use Rattle.wave_dump.specs.Machine.{Body}
use Rattle.wave_dump.specs.Reading.{dump_from, spot_with, signed_words, olds_at}
use Rattle.wave_dump.proofs.value_lines.read_values.Given as goal

abbrev pub invariant-loop-j : goal.invariant-loop-j
invariant-loop-j l =
    record {
      low : l.j ≤ length l.values;
      count : length l.values ≡ length l.fn.values;
      place : l.start ≤ l.at;
      within : l.at ≤ length l.bytes;
      same : (names : List (List ℕ)) (ticks : List (List ℤ)) → dump_from l.bytes l.start (Body (spot_with names ticks [] (olds_at l.first l.fn.values))) ≡ dump_from l.bytes l.at (Body (spot_with names ticks (signed_words (take l.j l.values)) (olds_at l.first (drop l.j l.values))));
    }

abbrev pub decreases-loop-j : goal.decreases-loop-j
decreases-loop-j l = length l.values - l.j
