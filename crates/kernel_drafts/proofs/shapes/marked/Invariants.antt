use Rattle.std.proofs.Common.{◌≡◌, ◌++◌, drop}
use Rattle.kernel_drafts.specs.Drafts.{marked_from}
use Rattle.kernel_drafts.proofs.shapes.marked.Given as goal

abbrev pub invariant-loop-variable : goal.invariant-loop-variable
invariant-loop-variable l = l.list.items ++ marked_from l.variable (drop l.variable l.marks) ≡ marked_from 0 l.fn.marks
