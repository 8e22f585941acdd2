use Rattle.std.proofs.Common.{◌≡◌, ◌-◌, map}
use Rattle.forec_tree.specs.Plain.{plain_item}
use Rattle.expr_parser.specs.Input.{max_level}
use Rattle.expr_parser.specs.Reading.{separated, separated_from}
use Rattle.forec_parser.specs.Items.{declared_item}
use Rattle.forec_parser.proofs.item.declared_list.Given as goal

abbrev pub invariant-loop-turn : goal.invariant-loop-turn
invariant-loop-turn l = separated (declared_item max_level l.declarator) l.fn.tokens ≡ separated_from (declared_item max_level l.declarator) (l._turn-end - l._turn) (map plain_item l.found) l.tokens
