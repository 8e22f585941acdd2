use Rattle.std.proofs.Common.{◌≡◌, ◌<◌, ◌||◌, ℕ, length, drop}
use Rattle.forec_kernel.specs.Plain as kernel
use Rattle.forec_tree.specs.Faults.{is_in}
use Rattle.text_kernel.specs.Lowering as lowering
use Rattle.kernel_drafts.specs.Marks.{is_marked}
use Rattle.kernel_drafts.proofs.marks.+mark_expression.Given as goal

abbrev pub invariant-mark_all-loop-e : goal.invariant-mark_all-loop-e
invariant-mark_all-loop-e l =
    (v : ℕ) → v < length l.marks → (is_marked l.marks v || is_in v (lowering.vars_all (kernel.exprs (drop l.e-index l.list)))) ≡ (is_marked l.fn.marks v || is_in v (lowering.vars_all (kernel.exprs l.fn.list)))
