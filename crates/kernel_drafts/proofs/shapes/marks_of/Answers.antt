use Rattle.std.proofs.Common.{◌∙◌, ◌+◌, ◌||◌, sym, ap, subst, map, drop, length, arith}
use Rattle.forec_tree.specs.Faults.{is_in}
use Rattle.forec_kernel.specs.Plain.{stmt}
use Rattle.text_kernel.specs.Lowering.{vars_of}
use Rattle.lower_names.specs.Views.{of_thread}
use Rattle.kernel_drafts.specs.Drafts.{vars_bare}
use Rattle.kernel_drafts.specs.Marks.{is_marked, Marks}
use Rattle.lower_names.proofs.Statements.{drop_next}
use Rattle.kernel_drafts.proofs.Marking.{marks_step, written_back}
use Rattle.kernel_drafts.proofs.shapes.marks_of.Goals as goal

pub loop-thread-preserved : goal.loop-thread-preserved
loop-thread-preserved c =
    let list = c.args.threads.now in
    let old = c.loop-thread.marks.items in
    let new = c.mark_statement.new.marks in
    let next = drop_next list c.loop-thread.thread-index c.thread-item.result c.loop-thread-test.true (sym c.thread-item.is) in
    let marks : Marks old new (vars_of (stmt c.thread-item.result.body)) = subst (λ l. Marks l new (vars_of (stmt c.thread-item.result.body))) c.deref_mut.ensures.value c.mark_statement.ensures in
    let long = marks.long in
    let ok = c.loop-thread.marks.ok.0 in
    let kept = c.loop-thread.invariant.long in
    let back = written_back c.loop-thread.marks.len new (drop (length new) old) (omega (arith, long, ok)) in
    let told =
    marks_step old new (vars_of (stmt c.thread-item.result.body)) (vars_bare (map of_thread (drop (c.loop-thread.thread-index + 1) list))) (vars_bare (map of_thread (drop c.loop-thread.thread-index list)))
    (λ v. is_in v (vars_bare (map of_thread list))) c.args.count marks (ap (λ l. vars_bare (map of_thread l)) next) (omega (arith, long, kept)) c.loop-thread.invariant.told in
    record {
      long = ap length back ∙ omega (arith, long, kept);
      told = λ v l. ap (λ m. is_marked m v || is_in v (vars_bare (map of_thread (drop (c.loop-thread.thread-index + 1) list)))) back ∙ told v l;
    }
