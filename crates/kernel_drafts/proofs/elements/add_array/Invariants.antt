use Rattle.std.proofs.Common.{◌≡◌, ◌-◌, ◌++◌}
use Rattle.forec_tree.specs.Plain.{plain_global}
use Rattle.forec_tree.specs.Variables.{elements_from}
use Rattle.kernel_drafts.specs.Elements.{plain_elements}
use Rattle.kernel_drafts.proofs.elements.add_array.Given as goal

abbrev pub invariant-loop-i : goal.invariant-loop-i
invariant-loop-i l =
    plain_elements l.list.items ++ elements_from (plain_global l.global) l.i (l.length - l.i) ≡ plain_elements l.fn.list.items ++ elements_from (plain_global l.global) 0 l.length
