use Rattle.std.proofs.Common.{◌≡◌, ◌-◌}
use Rattle.expr_parser.specs.Reading.{separated, separated_from}
use Rattle.forec_parser.specs.Items.{param}
use Rattle.forec_parser.proofs.item.listed_params.Given as goal

abbrev pub invariant-loop-turn : goal.invariant-loop-turn
invariant-loop-turn l = separated param l.fn.tokens ≡ separated_from param (l._turn-end - l._turn) l.found l.tokens
