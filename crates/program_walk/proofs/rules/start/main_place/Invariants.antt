use Rattle.std.proofs.Common.{◌≡◌, map, drop}
use Rattle.forec_tree.specs.Plain as plain
use Rattle.forec_tree.specs.Faults as faults
use Rattle.program_walk.proofs.rules.start.main_place.Given as goal

abbrev pub invariant-loop-item : goal.invariant-loop-item
invariant-loop-item l = faults.main_place l.names (map plain.plain_item (drop l.item-index l.items)) ≡ faults.main_place l.names (map plain.plain_item l.fn.items)
