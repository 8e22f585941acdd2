use Rattle.std.proofs.Common.{◌≡◌, ◌+◌, ◌-◌, ◌*◌, map}
use Rattle.forec_tree.specs.Plain.{term}
use Rattle.expr_parser.specs.Input.{max_level}
use Rattle.expr_parser.specs.Reading as spec
use Rattle.expr_parser.specs.Boxes.{term_in}
use Rattle.expr_parser.proofs.expression.+expr.Given as goal

abbrev pub decreases-expr : goal.decreases-expr
decreases-expr l = 8 * l.depth

abbrev pub decreases-climbing : goal.decreases-climbing
decreases-climbing l = 8 * l.depth + 7

abbrev pub decreases-prefix : goal.decreases-prefix
decreases-prefix l = 8 * l.depth + 6

abbrev pub decreases-operation : goal.decreases-operation
decreases-operation l = 8 * l.depth + 1

abbrev pub decreases-named : goal.decreases-named
decreases-named l = 8 * l.depth + 5

abbrev pub decreases-enclosed : goal.decreases-enclosed
decreases-enclosed l = 8 * l.depth + 1

abbrev pub decreases-bracketed : goal.decreases-bracketed
decreases-bracketed l = 8 * l.depth + 2

abbrev pub decreases-indexed : goal.decreases-indexed
decreases-indexed l = 8 * l.depth + 2

abbrev pub decreases-passed : goal.decreases-passed
decreases-passed l = 8 * l.depth + 4

abbrev pub decreases-arguments : goal.decreases-arguments
decreases-arguments l = 8 * l.depth + 3

abbrev pub decreases-values : goal.decreases-values
decreases-values l = 8 * l.depth + 2

abbrev pub decreases-value : goal.decreases-value
decreases-value l = 8 * l.depth + 1

abbrev pub invariant-climbing-loop-turn : goal.invariant-climbing-loop-turn
invariant-climbing-loop-turn l =
    spec.climbing max_level (spec.read_expression max_level l.depth) l.least l.fn.tokens ≡ spec.climb max_level (spec.read_expression max_level l.depth) l.least (l._turn-end - l._turn) (term_in l.left) l.tokens

abbrev pub invariant-values-loop-turn : goal.invariant-values-loop-turn
invariant-values-loop-turn l =
    spec.separated (spec.value max_level (spec.read_expression max_level l.depth)) l.fn.tokens
    ≡ spec.separated_from (spec.value max_level (spec.read_expression max_level l.depth)) (l._turn-end - l._turn) (map term l.found) l.tokens
