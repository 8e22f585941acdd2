use Rattle.std.proofs.Common.{◌≡◌, ◌++◌, drop}
use Rattle.text_kernel.specs.Items.{globals_of, each_variable}
use Rattle.kernel_drafts.specs.Elements.{plain_elements}
use Rattle.kernel_drafts.proofs.elements.elements.Given as goal

abbrev pub invariant-loop-global : goal.invariant-loop-global
invariant-loop-global l = plain_elements l.list.items ++ each_variable (globals_of (drop l.global-index l.globals)) ≡ each_variable (globals_of l.globals)
