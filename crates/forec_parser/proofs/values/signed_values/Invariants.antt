use Rattle.std.proofs.Common.{◌≡◌, ◌-◌}
use Rattle.expr_parser.specs.Reading.{separated, separated_from}
use Rattle.forec_parser.specs.Items.{signed}
use Rattle.forec_parser.proofs.values.signed_values.Given as goal

abbrev pub invariant-loop-turn : goal.invariant-loop-turn
invariant-loop-turn l = separated signed l.fn.tokens ≡ separated_from signed (l._turn-end - l._turn) l.found l.tokens
