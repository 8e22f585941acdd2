use Rattle.std.proofs.Common.{◌≡◌, ◌≤◌, ◌+◌, ◌*◌, ◌++◌, length, take, drop}
use Rattle.wave_dump.specs.Wave.{change_lines, tick_text}
use Rattle.wave_dump.specs.Writing.{values_before}
use Rattle.wave_dump.proofs.waver.put_tick.Given as goal

abbrev pub invariant-loop-k : goal.invariant-loop-k
invariant-loop-k l =
    record {
      room : l.at ≤ 22 + 36 * l.k;
      same_length : length l.buffer ≡ length l.fn.buffer;
      text : take l.at l.buffer ++ change_lines l.k (values_before l.first (drop l.k l.last)) (drop l.k l.values) ≡ tick_text l.tick (values_before l.first l.last) l.values;
    }
