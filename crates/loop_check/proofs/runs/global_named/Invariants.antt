use Rattle.std.proofs.Common.{◌≡◌, map, drop}
use Rattle.forec_tree.specs.Plain as plain
use Rattle.forec_tree.specs.Turns as form
use Rattle.loop_check.proofs.runs.global_named.Given as goal

abbrev pub invariant-loop-item : goal.invariant-loop-item
invariant-loop-item l = form.global_named l.id (map plain.plain_item (drop l.item-index l.items)) ≡ form.global_named l.id (map plain.plain_item l.fn.items)
