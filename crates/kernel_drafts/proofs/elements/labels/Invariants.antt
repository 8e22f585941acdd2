use Rattle.std.proofs.Common.{◌≡◌, ◌++◌, map, drop}
use Rattle.text_kernel.specs.Kernels as kernels
use Rattle.kernel_drafts.specs.Elements.{plain_elements}
use Rattle.kernel_drafts.proofs.elements.labels.Given as goal

abbrev pub invariant-loop-e : goal.invariant-loop-e
invariant-loop-e l = l.list ++ map (kernels.variable_name l.names) (plain_elements (drop l.e-index l.elements)) ≡ map (kernels.variable_name l.names) (plain_elements l.elements)
