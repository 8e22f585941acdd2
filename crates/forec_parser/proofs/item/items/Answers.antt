use Rattle.std.proofs.Common.{arith, map}
use Rattle.std.proofs.lemmas.List.{map-append}
use Rattle.std.proofs.lemmas.Grind.{common_steps}
use Rattle.forec_tree.specs.Plain.{plain_item}
use Rattle.expr_parser.specs.Input.{max_level}
use Rattle.forec_parser.specs.Items.{items_from}
use Rattle.expr_parser.proofs.LoopTurns.{next_turn}
use Rattle.forec_parser.proofs.item.items.Goals as goal

pub loop-turn-preserved : goal.loop-turn-preserved
unfolding items_from
loop-turn-preserved c =
    let e = next_turn (λ n. items_from max_level n (map plain_item c.loop-turn.found) c.loop-turn.tokens) _ c.loop-turn._turn c.loop-turn-test.true c.loop-turn.invariant in
    grind (arith, map-append, common_steps)
