use Rattle.std.proofs.Common.{◌≡◌, drop}
use Rattle.forec_lexer.specs.Reading.{word_in, words}
use Rattle.forec_lexer.proofs.words.word_of.Given as goal

abbrev pub invariant-loop-word : goal.invariant-loop-word
invariant-loop-word l = word_in words l.run ≡ word_in (drop l.word-index l.word-items) l.run
