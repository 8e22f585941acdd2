use Rattle.std.proofs.Common.{◌≡◌, ◌-◌, map}
use Rattle.forec_tree.specs.Plain.{declared}
use Rattle.expr_parser.specs.Input.{max_level}
use Rattle.expr_parser.specs.Reading.{separated, separated_from}
use Rattle.statement_parser.specs.Statements.{local}
use Rattle.statement_parser.proofs.simple.locals.Given as goal

abbrev pub invariant-loop-turn : goal.invariant-loop-turn
invariant-loop-turn l = separated (local max_level) l.fn.tokens ≡ separated_from (local max_level) (l._turn-end - l._turn) (map declared l.found) l.tokens
