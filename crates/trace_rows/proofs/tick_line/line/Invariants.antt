use Rattle.std.proofs.Common.{◌≡◌, ◌≤◌, ◌+◌, ◌++◌, length, take, drop, codes}
use Rattle.trace_rows.specs.Report.{pairs, pairs_room, tick_line, tick_room}
use Rattle.trace_rows.proofs.tick_line.line.Given as goal

abbrev pub invariant-loop-i : goal.invariant-loop-i
invariant-loop-i l = record {
  room : l.at + pairs_room (drop l.i l.names) + 1 ≤ tick_room l.names;
  fits : tick_room l.names ≤ length l.buffer;
  text : take l.at l.buffer ++ (pairs (drop l.i l.names) (drop l.i l.values) ++ codes "\n") ≡ tick_line l.tick l.names l.values;
}
