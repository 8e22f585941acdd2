use Rattle.std.proofs.Common.{◌≡◌, ◌++◌, drop}
use Rattle.forec_tree.specs.Rules as rules
use Rattle.loop_check.specs.Views.{indexed_text}
use Rattle.text_kernel.specs.Kernels as kernels
use Rattle.kernel_drafts.specs.Elements.{plain_elements}
use Rattle.kernel_drafts.proofs.globals.inputs.Given as goal

abbrev pub invariant-loop-e : goal.invariant-loop-e
invariant-loop-e l =
    l.list.items ++ kernels.numbers_of (indexed_text l.globals.index) l.names rules.is_input l.number (plain_elements (drop l.e-index l.elements))
    ≡ kernels.numbers_of (indexed_text l.globals.index) l.names rules.is_input 0 (plain_elements l.fn.elements)
