use Rattle.std.proofs.Common.{◌≡◌, ◌-◌, map}
use Rattle.forec_tree.specs.Plain.{plain_item}
use Rattle.expr_parser.specs.Input.{max_level}
use Rattle.forec_parser.specs.Items.{items, items_from}
use Rattle.forec_parser.proofs.item.items.Given as goal

abbrev pub invariant-loop-turn : goal.invariant-loop-turn
invariant-loop-turn l = items max_level l.fn.tokens ≡ items_from max_level (l._turn-end - l._turn) (map plain_item l.found) l.tokens
