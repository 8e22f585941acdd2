use Rattle.std.proofs.Common.{◌≡◌, ◌<◌, ◌||◌, ℕ, length, drop, map}
use Rattle.forec_kernel.specs.Plain as kernel
use Rattle.forec_tree.specs.Faults.{is_in}
use Rattle.text_kernel.specs.Lowering as lowering
use Rattle.kernel_drafts.specs.Marks.{is_marked}
use Rattle.kernel_drafts.proofs.marks.mark_launches.Given as goal

abbrev pub invariant-loop-launch : goal.invariant-loop-launch
invariant-loop-launch l =
    (v : ℕ) → v < length l.marks →
    (is_marked l.marks v || is_in v (lowering.vars_launches (map kernel.branch (drop l.launch-index l.launches)))) ≡ (is_marked l.fn.marks v || is_in v (lowering.vars_launches (map kernel.branch l.fn.launches)))
