use Rattle.std.proofs.Common.{◌≡◌, ◌++◌, map, drop}
use Rattle.forec_tree.specs.Plain.{plain_item}
use Rattle.text_kernel.specs.Items.{globals_of, variable_items}
use Rattle.kernel_drafts.proofs.globals.variables.Given as goal

abbrev pub invariant-loop-item : goal.invariant-loop-item
invariant-loop-item l = globals_of l.list.items ++ variable_items (map plain_item (drop l.item-index l.items)) ≡ variable_items (map plain_item l.fn.items)
