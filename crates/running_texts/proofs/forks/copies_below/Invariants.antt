use Rattle.std.proofs.Common.{◌≡◌, take}
use Rattle.forec_kernel.specs.Texts.{handed_down}
use Rattle.running_texts.proofs.forks.copies_below.Given as goal

abbrev pub invariant-loop-variable : goal.invariant-loop-variable
invariant-loop-variable l = l.list.items ≡ handed_down l.uses l.copies (take l.variable-index l.variables)
