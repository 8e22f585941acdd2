use Rattle.std.proofs.Common.{◌+◌, ◌-◌, ◌∷◌, [], ◌||◌, length, arith}
use Rattle.forec_tree.specs.Faults.{is_in}
use Rattle.forec_kernel.specs.WellFormed.{count_up}
use Rattle.kernel_drafts.specs.Marks.{is_marked}
use Rattle.kernel_drafts.proofs.Marking.{marks_step, row_more}
use Rattle.kernel_drafts.proofs.marks.mark_array.Goals as goal

pub loop-i-preserved : goal.loop-i-preserved
loop-i-preserved c =
    let first = c.args.variable in
    let i = c.loop-i.i in
    let n = c.args.length in
    let long = c.mark.ensures.long in
    marks_step c.loop-i.marks c.mark.new.marks ((first + i) ∷ []) (count_up (first + (i + 1)) (n - (i + 1))) (count_up (first + i) (n - i)) (λ v. is_marked c.args.marks.now v || is_in v (count_up first n)) (length c.mark.new.marks) c.mark.ensures
    (row_more first n i c.loop-i-test.true) (omega arith) (λ v l. c.loop-i.invariant v (omega (arith, l, long)))
