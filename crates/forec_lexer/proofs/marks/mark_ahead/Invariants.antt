use Rattle.std.proofs.Common.{◌≡◌, drop}
use Rattle.forec_lexer.specs.Reading as reading
use Rattle.forec_lexer.proofs.marks.mark_ahead.Given as goal

abbrev pub invariant-loop-mark : goal.invariant-loop-mark
invariant-loop-mark l = reading.mark_ahead reading.marks l.text ≡ reading.mark_ahead (drop l.mark-index l.mark-items) l.text
