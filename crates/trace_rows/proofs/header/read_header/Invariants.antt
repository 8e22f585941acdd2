use Rattle.std.proofs.Common.{◌≡◌, ◌==◌, true, take, count_by}
use Rattle.std.specs.List.{list_all}
use Rattle.std.specs.Str.{bytes_eq}
use Rattle.trace_rows.specs.Words.{line_words}
use Rattle.trace_rows.specs.Trace.{places_of}
use Rattle.trace_rows.proofs.header.read_header.Given as goal

abbrev pub invariant-loop-i : goal.invariant-loop-i
invariant-loop-i l = record {
  once : list_all (λ name. count_by (bytes_eq name) (line_words l.line) == 1) (take l.i l.inputs) ≡ true;
  places : take l.i l.places ≡ places_of (take l.i l.inputs) (line_words l.line);
}
