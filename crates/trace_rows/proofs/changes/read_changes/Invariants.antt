use Rattle.std.proofs.Common.{◌≡◌, length}
use Rattle.trace_rows.specs.Changes.{changed_row, row_behind}
use Rattle.trace_rows.specs.Words.{line_words, BeginsNoBlank}
use Rattle.trace_rows.proofs.changes.read_changes.Given as goal

-- the words that are left change what those before them have given
abbrev pub invariant-words : goal.invariant-words
invariant-words l = record {
  row : changed_row l.names.texts l.named l.values (line_words l.rest) ≡ row_behind l.names.texts l.fn.values (line_words l.line);
  begins : BeginsNoBlank l.rest;
}

abbrev pub decreases-words : goal.decreases-words
decreases-words l = length l.rest
