use Rattle.std.proofs.Common.{◌≡◌, ◌+◌, ◌≤◌, ◌++◌, length, take}
use Rattle.std.specs.Option.{option_map}
use Rattle.trace_rows.specs.Words.{line_words, BeginsNoBlank}
use Rattle.trace_rows.specs.Trace.{word_numbers}
use Rattle.trace_rows.proofs.values.read_numbers.Given as goal

-- the numbers so far and those of the words left are those of the line
abbrev pub invariant-words : goal.invariant-words
invariant-words l = record {
  numbers : option_map (λ more. take l.count l.values ++ more) (word_numbers (line_words l.rest)) ≡ word_numbers (line_words l.line);
  count : l.count + length (line_words l.rest) ≡ length (line_words l.line);
  within : l.count ≤ length l.values;
  begins : BeginsNoBlank l.rest;
}

abbrev pub decreases-words : goal.decreases-words
decreases-words l = length l.rest
