use Rattle.std.proofs.Common.{◌≡◌, ◌≤◌, length}
use Rattle.wave_dump.specs.Writing.{tick_lines_room}
use Rattle.wave_rows.proofs.dumps.written.Given as goal

abbrev pub invariant-loop-i : goal.invariant-loop-i
invariant-loop-i l =
    record {
      outputs : length l.waver ≡ l.outputs;
      room : tick_lines_room l.outputs ≤ length l.buffer.items;
    }
