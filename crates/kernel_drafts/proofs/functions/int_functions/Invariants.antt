use Rattle.std.proofs.Common.{◌≡◌, ◌++◌, map, drop}
use Rattle.forec_tree.specs.Plain.{plain_item}
use Rattle.loop_check.specs.Views.{indexed_text}
use Rattle.text_kernel.specs.Kernels as kernels
use Rattle.text_kernel.specs.Items.{functions_of}
use Rattle.kernel_drafts.proofs.functions.int_functions.Given as goal

abbrev pub invariant-loop-item : goal.invariant-loop-item
invariant-loop-item l =
    functions_of l.list.items ++ kernels.int_functions (indexed_text l.globals.index) l.names (map plain_item (drop l.item-index l.items)) ≡ kernels.int_functions (indexed_text l.globals.index) l.names (map plain_item l.fn.items)
