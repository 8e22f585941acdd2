use Rattle.std.proofs.Common.{◌+◌, ◌||◌, sym, ap, map, drop, length, arith}
use Rattle.forec_tree.specs.Faults.{is_in}
use Rattle.forec_kernel.specs.Plain.{exprs, branch}
use Rattle.text_kernel.specs.Lowering.{vars_all, vars_launches}
use Rattle.kernel_drafts.specs.Marks.{is_marked}
use Rattle.lower_names.proofs.Statements.{drop_next}
use Rattle.kernel_drafts.proofs.Marking.{marks_as, marks_step}
use Rattle.kernel_drafts.proofs.marks.mark_launches.Goals as goal

pub loop-launch-preserved : goal.loop-launch-preserved
loop-launch-preserved c =
    let list = c.args.launches.now in
    let next = drop_next list c.loop-launch.launch-index c.launch-item.result c.loop-launch-test.true (sym c.launch-item.is) in
    let long = c.mark_all.ensures.long in
    let marks = marks_as c.loop-launch.marks c.mark_all.new.marks (vars_all (exprs c.as_slice.result.now)) (vars_all (exprs c.launch-item.result.args.items)) c.mark_all.ensures (ap (λ l. vars_all (exprs l)) c.as_slice.ensures.value) in
    marks_step c.loop-launch.marks c.mark_all.new.marks (vars_all (exprs c.launch-item.result.args.items)) (vars_launches (map branch (drop (c.loop-launch.launch-index + 1) list))) (vars_launches (map branch (drop c.loop-launch.launch-index list)))
    (λ v. is_marked c.args.marks.now v || is_in v (vars_launches (map branch list))) (length c.mark_all.new.marks) marks (ap (λ l. vars_launches (map branch l)) next) (omega arith)
    (λ v l. c.loop-launch.invariant v (omega (arith, l, long)))
