use Rattle.std.proofs.Common.{◌≡◌, ◌≤◌, ◌+◌, ◌-◌, ◌^◌, min, drop}
use Rattle.trace_rows.specs.Report.{pairs_room, tick_room}
use Rattle.trace_rows.proofs.tick_line.line_room.Given as goal

abbrev pub invariant-loop-i : goal.invariant-loop-i
invariant-loop-i l = record {
  room : min (l.room + pairs_room (drop l.i l.names)) (2 ^ 64 - 1) ≡ min (tick_room l.names) (2 ^ 64 - 1);
  fits : l.room ≤ 2 ^ 64 - 1;
}
