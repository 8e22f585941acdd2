use Rattle.std.proofs.Common.{rules, arith, map}
use Rattle.std.proofs.lemmas.List.{map-append}
use Rattle.std.proofs.lemmas.Grind.{common_steps}
use Rattle.forec_tree.specs.Plain.{statement}
use Rattle.expr_parser.specs.Input.{max_level}
use Rattle.expr_parser.specs.Reading.{separated_from}
use Rattle.statement_parser.specs.Statements.{read_statement, body_from, launch}
use Rattle.statement_parser.specs.Views.{launch_of}
use Rattle.expr_parser.proofs.LoopTurns.{next_turn, first_turn}
use Rattle.statement_parser.proofs.statement.+stmt.Goals as goal

pub stmt-returns : goal.stmt-returns
unfolding read_statement
stmt-returns t c = rw (first_turn (λ n. read_statement max_level n c.args.tokens.now) c.args.depth (omega arith)) c.one.ensures

pub body-loop-turn-preserved : goal.body-loop-turn-preserved
unfolding body_from
body-loop-turn-preserved t c =
    let e = next_turn (λ n. body_from max_level (read_statement max_level c.args.depth) n (map statement c.loop-turn.found) c.loop-turn.tokens) _ c.loop-turn._turn c.loop-turn-test.true c.loop-turn.invariant in
    grind (arith, map-append, common_steps)

pub launches-loop-turn-preserved : goal.launches-loop-turn-preserved
unfolding separated_from
launches-loop-turn-preserved t c =
    let e = next_turn (λ n. separated_from (launch max_level (read_statement max_level c.args.depth)) n (map launch_of c.loop-turn.found) c.loop-turn.tokens) _ c.loop-turn._turn c.loop-turn-test.true c.loop-turn.invariant in
    grind (arith, map-append, common_steps)

pub launches-returns-in_err-take : goal.launches-returns-in_err-take
unfolding separated_from
launches-returns-in_err-take t c =
    let e = next_turn (λ n. separated_from (launch max_level (read_statement max_level c.args.depth)) n (map launch_of c.loop-turn.found) c.loop-turn.tokens) _ c.loop-turn._turn c.loop-turn-test.true c.loop-turn.invariant in
    first_of (search rules, grind (arith, map-append, common_steps))

pub body-returns-in_err-stmt : goal.body-returns-in_err-stmt
unfolding body_from
body-returns-in_err-stmt t c =
    let e = next_turn (λ n. body_from max_level (read_statement max_level c.args.depth) n (map statement c.loop-turn.found) c.loop-turn.tokens) _ c.loop-turn._turn c.loop-turn-test.true c.loop-turn.invariant in
    first_of (search rules, grind (arith, map-append, common_steps))

pub launches-returns-in_err-launch : goal.launches-returns-in_err-launch
unfolding separated_from
launches-returns-in_err-launch t c =
    let e = next_turn (λ n. separated_from (launch max_level (read_statement max_level c.args.depth)) n (map launch_of c.loop-turn.found) c.loop-turn.tokens) _ c.loop-turn._turn c.loop-turn-test.true c.loop-turn.invariant in
    first_of (search rules, grind (arith, map-append, common_steps))
