use Rattle.std.proofs.Common.{◌≡◌, ◌+◌, ◌≤◌, length}
use Rattle.std.specs.List.{position_or_len}
use Rattle.std.specs.Str.{bytes_eq}
use Rattle.trace_rows.specs.Words.{line_words}
use Rattle.trace_rows.proofs.header.first_place.Given as goal

abbrev pub invariant-words : goal.invariant-words
invariant-words l = record {
  place : l.place + position_or_len (bytes_eq l.name) (line_words l.rest) ≡ position_or_len (bytes_eq l.name) (line_words l.line);
  few : l.place + length l.rest ≤ length l.line;
}

abbrev pub decreases-words : goal.decreases-words
decreases-words l = length l.rest
