use Rattle.std.proofs.Common.{◌≡◌, ◌++◌, map, drop}
use Rattle.forec_tree.specs.Plain.{plain_item}
use Rattle.text_kernel.specs.Items.{globals_of, array_items}
use Rattle.kernel_drafts.proofs.tables.arrays.Given as goal

abbrev pub invariant-loop-item : goal.invariant-loop-item
invariant-loop-item l = globals_of l.list.items ++ array_items (map plain_item (drop l.item-index l.items)) ≡ array_items (map plain_item l.fn.items)
