use Rattle.std.proofs.Common.{◌≡◌, ◌+◌, ◌≤◌, length}
use Rattle.trace_rows.specs.Words.{line_words}
use Rattle.trace_rows.proofs.header.count_words.Given as goal

abbrev pub invariant-words : goal.invariant-words
invariant-words l = record {
  count : l.count + length (line_words l.rest) ≡ length (line_words l.line);
  few : l.count + length l.rest ≤ length l.line;
}

abbrev pub decreases-words : goal.decreases-words
decreases-words l = length l.rest
