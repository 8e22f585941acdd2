use Rattle.std.proofs.Common.{◌≡◌, ◌+◌, ◌≤◌, length, count_by}
use Rattle.std.specs.Str.{bytes_eq}
use Rattle.trace_rows.specs.Words.{line_words}
use Rattle.trace_rows.proofs.header.count_name.Given as goal

abbrev pub invariant-words : goal.invariant-words
invariant-words l = record {
  count : l.count + count_by (bytes_eq l.name) (line_words l.rest) ≡ count_by (bytes_eq l.name) (line_words l.line);
  few : l.count + length l.rest ≤ length l.line;
}

abbrev pub decreases-words : goal.decreases-words
decreases-words l = length l.rest
