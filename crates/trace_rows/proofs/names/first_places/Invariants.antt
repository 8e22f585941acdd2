use Rattle.std.proofs.Common.{◌≡◌, take, length}
use Rattle.trace_rows.specs.Trace.{places_of}
use Rattle.trace_rows.proofs.names.first_places.Given as goal

abbrev pub invariant-loop-i : goal.invariant-loop-i
invariant-loop-i l = record {
  so_far : take l.i l.places.items ≡ places_of (take l.i l.texts) l.texts;
  each : length l.places.items ≡ length l.texts;
}
