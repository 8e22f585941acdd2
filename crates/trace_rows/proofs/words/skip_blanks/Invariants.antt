use Rattle.std.proofs.Common.{◌≡◌, ◌≤◌, length}
use Rattle.trace_rows.specs.Words.{line_words}
use Rattle.trace_rows.proofs.words.skip_blanks.Given as goal

abbrev pub invariant-blanks : goal.invariant-blanks
invariant-blanks l = record { words : line_words l.rest ≡ line_words l.line; shorter : length l.rest ≤ length l.line }

abbrev pub decreases-blanks : goal.decreases-blanks
decreases-blanks l = length l.rest
