use Rattle.std.proofs.Common.{◌≡◌, ◌+◌, map, drop}
use Rattle.forec_tree.specs.Plain as plain
use Rattle.forec_check.specs.Checked as checked
use Rattle.forec_check.proofs.sizes.count_outputs.Given as goal

abbrev pub invariant-loop-item : goal.invariant-loop-item
invariant-loop-item l = l.count + checked.count_outputs (map plain.plain_item (drop l.item-index l.items)) ≡ checked.count_outputs (map plain.plain_item l.fn.items)
