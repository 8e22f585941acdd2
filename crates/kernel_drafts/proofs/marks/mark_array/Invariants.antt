use Rattle.std.proofs.Common.{◌≡◌, ◌<◌, ◌+◌, ◌-◌, ◌||◌, ℕ, length}
use Rattle.forec_tree.specs.Faults.{is_in}
use Rattle.forec_kernel.specs.WellFormed.{count_up}
use Rattle.kernel_drafts.specs.Marks.{is_marked}
use Rattle.kernel_drafts.proofs.marks.mark_array.Given as goal

abbrev pub invariant-loop-i : goal.invariant-loop-i
invariant-loop-i l =
    (v : ℕ) → v < length l.marks → (is_marked l.marks v || is_in v (count_up (l.first + l.i) (l.length - l.i))) ≡ (is_marked l.fn.marks v || is_in v (count_up l.first l.length))
