use Rattle.std.proofs.Common.{◌≡◌, ◌++◌, map, drop}
use Rattle.loop_check.specs.Views.{indexed_text}
use Rattle.text_kernel.specs.Kernels as kernels
use Rattle.kernel_drafts.specs.Elements.{plain_elements}
use Rattle.kernel_drafts.proofs.globals.shapes.Given as goal

abbrev pub invariant-loop-e : goal.invariant-loop-e
invariant-loop-e l =
    l.list.items ++ map (kernels.variable_shape (indexed_text l.globals.index) l.names) (plain_elements (drop l.e-index l.elements))
    ≡ map (kernels.variable_shape (indexed_text l.globals.index) l.names) (plain_elements l.fn.elements)
