use Rattle.std.proofs.Common.{rules, arith, map}
use Rattle.std.proofs.lemmas.List.{map-append}
use Rattle.std.proofs.lemmas.Grind.{common_steps}
use Rattle.forec_tree.specs.Plain.{declared}
use Rattle.expr_parser.specs.Input.{max_level}
use Rattle.expr_parser.specs.Reading.{separated_from}
use Rattle.statement_parser.specs.Statements.{local}
use Rattle.expr_parser.proofs.LoopTurns.{next_turn}
use Rattle.statement_parser.proofs.simple.locals.Goals as goal

pub loop-turn-preserved : goal.loop-turn-preserved
unfolding separated_from
loop-turn-preserved c =
    let e = next_turn (λ n. separated_from (local max_level) n (map declared c.loop-turn.found) c.loop-turn.tokens) _ c.loop-turn._turn c.loop-turn-test.true c.loop-turn.invariant in
    grind (arith, map-append, common_steps)

pub returns-in_err-take : goal.returns-in_err-take
unfolding separated_from
returns-in_err-take c =
    let e = next_turn (λ n. separated_from (local max_level) n (map declared c.loop-turn.found) c.loop-turn.tokens) _ c.loop-turn._turn c.loop-turn-test.true c.loop-turn.invariant in
    first_of (search rules, grind (arith, map-append, common_steps))
