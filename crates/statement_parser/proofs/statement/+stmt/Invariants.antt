use Rattle.std.proofs.Common.{◌≡◌, ◌+◌, ◌-◌, ◌*◌, map}
use Rattle.forec_tree.specs.Plain.{statement}
use Rattle.expr_parser.specs.Input.{max_level}
use Rattle.expr_parser.specs.Reading.{separated_from}
use Rattle.statement_parser.specs.Statements as spec
use Rattle.statement_parser.specs.Views.{launch_of}
use Rattle.statement_parser.proofs.statement.+stmt.Given as goal

abbrev pub decreases-stmt : goal.decreases-stmt
decreases-stmt l = 8 * l.depth

abbrev pub decreases-nested : goal.decreases-nested
decreases-nested l = 8 * l.depth + 1

abbrev pub decreases-one : goal.decreases-one
decreases-one l = 8 * l.depth + 6

abbrev pub decreases-par_statement : goal.decreases-par_statement
decreases-par_statement l = 8 * l.depth + 5

abbrev pub decreases-launches : goal.decreases-launches
decreases-launches l = 8 * l.depth + 4

abbrev pub decreases-launch : goal.decreases-launch
decreases-launch l = 8 * l.depth + 3

abbrev pub decreases-abort_statement : goal.decreases-abort_statement
decreases-abort_statement l = 8 * l.depth + 3

abbrev pub decreases-block : goal.decreases-block
decreases-block l = 8 * l.depth + 2

abbrev pub decreases-body : goal.decreases-body
decreases-body l = 8 * l.depth + 1

abbrev pub decreases-if_statement : goal.decreases-if_statement
decreases-if_statement l = 8 * l.depth + 3

abbrev pub decreases-otherwise : goal.decreases-otherwise
decreases-otherwise l = 8 * l.depth + 2

abbrev pub decreases-while_statement : goal.decreases-while_statement
decreases-while_statement l = 8 * l.depth + 2

abbrev pub decreases-for_statement : goal.decreases-for_statement
decreases-for_statement l = 8 * l.depth + 2

abbrev pub invariant-body-loop-turn : goal.invariant-body-loop-turn
invariant-body-loop-turn l =
    spec.body max_level (spec.read_statement max_level l.depth) l.fn.tokens
    ≡ spec.body_from max_level (spec.read_statement max_level l.depth) (l._turn-end - l._turn) (map statement l.found) l.tokens

abbrev pub invariant-launches-loop-turn : goal.invariant-launches-loop-turn
invariant-launches-loop-turn l =
    spec.launches max_level (spec.read_statement max_level l.depth) l.fn.tokens
    ≡ separated_from (spec.launch max_level (spec.read_statement max_level l.depth)) (l._turn-end - l._turn) (map launch_of l.found) l.tokens
