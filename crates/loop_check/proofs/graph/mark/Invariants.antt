use Rattle.std.proofs.Common.{ℕ, ◌≡◌, ◌+◌, ◌-◌, false, length, get_or}
use Rattle.loop_check.specs.Graph.{trues}
use Rattle.loop_check.proofs.graph.mark.Given as goal

abbrev pub invariant-loop-marks : goal.invariant-loop-marks
invariant-loop-marks l =
    ((k : ℕ) → get_or l.marks.items k false ≡ get_or l.initial.marks.items k false) × (trues l.marks.items ≡ trues l.initial.marks.items)

abbrev pub decreases-loop-marks : goal.decreases-loop-marks
decreases-loop-marks l = (l.at + 1) - length l.marks.items
