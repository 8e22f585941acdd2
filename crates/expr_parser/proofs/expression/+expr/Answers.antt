use Rattle.std.proofs.Common.{rules, arith, map}
use Rattle.std.proofs.lemmas.List.{map-append}
use Rattle.std.proofs.lemmas.Grind.{common_steps}
use Rattle.forec_tree.specs.Plain.{term}
use Rattle.expr_parser.specs.Input.{max_level}
use Rattle.expr_parser.specs.Reading.{read_expression, climb, value, separated_from}
use Rattle.expr_parser.specs.Boxes.{term_in}
use Rattle.expr_parser.proofs.LoopTurns.{next_turn, first_turn}
use Rattle.expr_parser.proofs.expression.+expr.Goals as goal

pub expr-returns-clause-read : goal.expr-returns-clause-read
unfolding read_expression
expr-returns-clause-read t c = rw (first_turn (λ n. read_expression max_level n c.args.least c.args.tokens.now) c.args.depth (omega arith)) c.climbing.ensures.read

pub climbing-loop-turn-preserved : goal.climbing-loop-turn-preserved
unfolding climb
climbing-loop-turn-preserved t c =
    let e = next_turn (λ n. climb max_level (read_expression max_level c.args.depth) c.args.least n (term_in c.loop-turn.left) c.loop-turn.tokens) _ c.loop-turn._turn c.loop-turn-test.true c.loop-turn.invariant in
    first_of (search rules, grind (arith, common_steps))

pub values-loop-turn-preserved : goal.values-loop-turn-preserved
unfolding separated_from
values-loop-turn-preserved t c =
    let e = next_turn (λ n. separated_from (value max_level (read_expression max_level c.args.depth)) n (map term c.loop-turn.found) c.loop-turn.tokens) _ c.loop-turn._turn c.loop-turn-test.true c.loop-turn.invariant in
    grind (arith, map-append, common_steps)

pub values-returns-in_err-take-clause-read : goal.values-returns-in_err-take-clause-read
unfolding separated_from
values-returns-in_err-take-clause-read t c =
    let e = next_turn (λ n. separated_from (value max_level (read_expression max_level c.args.depth)) n (map term c.loop-turn.found) c.loop-turn.tokens) _ c.loop-turn._turn c.loop-turn-test.true c.loop-turn.invariant in
    first_of (search rules, grind (arith, map-append, common_steps))

pub values-returns-then-not-next_is-clause-read : goal.values-returns-then-not-next_is-clause-read
unfolding separated_from
values-returns-then-not-next_is-clause-read t c =
    let e = next_turn (λ n. separated_from (value max_level (read_expression max_level c.args.depth)) n (map term c.loop-turn.found) c.loop-turn.tokens) _ c.loop-turn._turn c.loop-turn-test.true c.loop-turn.invariant in
    first_of (search rules, grind (arith, map-append, common_steps))
