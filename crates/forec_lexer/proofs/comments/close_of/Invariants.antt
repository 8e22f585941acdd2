use Rattle.std.proofs.Common.{◌≡◌, drop}
use Rattle.forec_lexer.specs.Reading.{close_from}
use Rattle.forec_lexer.proofs.comments.close_of.Given as goal

abbrev pub invariant-loop-at : goal.invariant-loop-at
invariant-loop-at l = close_from 0 l.text ≡ close_from l.at (drop l.at l.text)
