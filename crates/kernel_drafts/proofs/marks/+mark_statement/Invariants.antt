use Rattle.std.proofs.Common.{◌≡◌, ◌<◌, ◌||◌, ℕ, length, drop}
use Rattle.forec_kernel.specs.Plain as kernel
use Rattle.forec_tree.specs.Faults.{is_in}
use Rattle.text_kernel.specs.Lowering as lowering
use Rattle.kernel_drafts.specs.Marks.{is_marked}
use Rattle.kernel_drafts.proofs.marks.+mark_statement.Given as goal

abbrev pub invariant-mark_list-loop-s : goal.invariant-mark_list-loop-s
invariant-mark_list-loop-s l =
    (v : ℕ) → v < length l.marks → (is_marked l.marks v || is_in v (lowering.vars_list (kernel.stmts (drop l.s-index l.list)))) ≡ (is_marked l.fn.marks v || is_in v (lowering.vars_list (kernel.stmts l.fn.list)))
