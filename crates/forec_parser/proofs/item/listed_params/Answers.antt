use Rattle.std.proofs.Common.{rules, arith}
use Rattle.std.proofs.lemmas.List.{map-append}
use Rattle.std.proofs.lemmas.Grind.{common_steps}
use Rattle.expr_parser.specs.Reading.{separated_from}
use Rattle.forec_parser.specs.Items.{param}
use Rattle.expr_parser.proofs.LoopTurns.{next_turn}
use Rattle.forec_parser.proofs.item.listed_params.Goals as goal

pub loop-turn-preserved : goal.loop-turn-preserved
unfolding separated_from
loop-turn-preserved c =
    let e = next_turn (λ n. separated_from param n c.loop-turn.found c.loop-turn.tokens) _ c.loop-turn._turn c.loop-turn-test.true c.loop-turn.invariant in
    grind (arith, map-append, common_steps)

pub returns-in_err-take : goal.returns-in_err-take
unfolding separated_from
returns-in_err-take c =
    let e = next_turn (λ n. separated_from param n c.loop-turn.found c.loop-turn.tokens) _ c.loop-turn._turn c.loop-turn-test.true c.loop-turn.invariant in
    first_of (search rules, grind (arith, map-append, common_steps))
