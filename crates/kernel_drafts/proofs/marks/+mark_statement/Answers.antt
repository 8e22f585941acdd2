use Rattle.std.proofs.Common.{◌∙◌, ◌+◌, ◌||◌, sym, ap, refl, ◌++◌, drop, length, arith}
use Rattle.forec_tree.specs.Faults.{is_in}
use Rattle.forec_kernel.specs.Plain.{expr, stmt, stmts}
use Rattle.forec_kernel.specs.WellFormed.{count_up}
use Rattle.text_kernel.specs.Lowering.{vars_in, vars_of, vars_list}
use Rattle.kernel_drafts.specs.Marks.{is_marked}
use Rattle.lower_names.proofs.Statements.{drop_next}
use Rattle.kernel_calls.proofs.Formed.{of_sequence}
use Rattle.kernel_drafts.proofs.Marking.{marks_two, marks_as, marks_step}
use Rattle.kernel_drafts.proofs.marks.+mark_statement.Goals as goal

pub mark_list-loop-s-preserved : goal.mark_list-loop-s-preserved
mark_list-loop-s-preserved t c =
    let list = c.args.list.now in
    let next = drop_next list c.loop-s.s-index c.s-item.result c.loop-s-test.true (sym c.s-item.is) in
    let long = c.mark_statement.ensures.long in
    marks_step c.loop-s.marks c.mark_statement.new.marks (vars_of (stmt c.s-item.result)) (vars_list (stmts (drop (c.loop-s.s-index + 1) list))) (vars_list (stmts (drop c.loop-s.s-index list)))
    (λ v. is_marked c.args.marks.now v || is_in v (vars_list (stmts list))) (length c.mark_statement.new.marks) c.mark_statement.ensures (ap (λ l. vars_list (stmts l)) next) (omega arith)
    (λ v l. c.loop-s.invariant v (omega (arith, l, long)))

pub mark_statement-returns-in-Sequence : goal.mark_statement-returns-in-Sequence
mark_statement-returns-in-Sequence t c =
    marks_as c.args.marks.now c.mark_list.new.marks (vars_list (stmts c.as_slice.result.now)) (vars_of (stmt c.args.s.now)) c.mark_list.ensures
    (of_sequence vars_of c.args.s.now c.in-Sequence.list c.as_slice.result.now c.in-Sequence.is c.as_slice.ensures.value)

pub mark_statement-returns-in-SetAt : goal.mark_statement-returns-in-SetAt
mark_statement-returns-in-SetAt t c =
    marks_two c.args.marks.now c.mark_expression-in-SetAt.new.marks c.mark_expression-in-SetAt-2.new.marks (vars_in (expr c.in-SetAt.index)) (vars_in (expr c.in-SetAt.value)) (vars_of (stmt c.args.s.now)) c.mark_expression-in-SetAt.ensures
    c.mark_expression-in-SetAt-2.ensures (ap (λ x. vars_of (stmt x)) c.in-SetAt.is)

pub mark_statement-returns-in-While : goal.mark_statement-returns-in-While
mark_statement-returns-in-While t c =
    let b = c.deref-in-While.result.now in
    marks_two c.args.marks.now c.mark_expression-in-While.new.marks c.mark_statement-in-While.new.marks (vars_in (expr c.in-While.test)) (vars_of (stmt b)) (vars_of (stmt c.args.s.now)) c.mark_expression-in-While.ensures
    c.mark_statement-in-While.ensures (ap (λ x. vars_of (stmt x)) c.in-While.is ∙ ap (λ x. vars_in (expr c.in-While.test) ++ vars_of (stmt x)) (sym c.deref-in-While.ensures))

pub mark_statement-returns-in-Enter : goal.mark_statement-returns-in-Enter
mark_statement-returns-in-Enter t c =
    let b = c.deref-in-Enter.result.now in
    marks_two c.args.marks.now c.mark_expression-in-Enter.new.marks c.mark_statement-in-Enter.new.marks (vars_in (expr c.in-Enter.test)) (vars_of (stmt b)) (vars_of (stmt c.args.s.now)) c.mark_expression-in-Enter.ensures
    c.mark_statement-in-Enter.ensures (ap (λ x. vars_of (stmt x)) c.in-Enter.is ∙ ap (λ x. vars_in (expr c.in-Enter.test) ++ vars_of (stmt x)) (sym c.deref-in-Enter.ensures))

pub mark_statement-returns-in-If : goal.mark_statement-returns-in-If
mark_statement-returns-in-If t c =
    let test = vars_in (expr c.in-If.test) in
    let a = c.deref.result.now in
    let b = c.deref-in-If.result.now in
    marks_two c.args.marks.now c.mark_expression-in-If.new.marks c.mark_statement-in-If.new.marks test (vars_of (stmt a) ++ vars_of (stmt b)) (vars_of (stmt c.args.s.now)) c.mark_expression-in-If.ensures
    (marks_two c.mark_expression-in-If.new.marks c.mark_statement.new.marks c.mark_statement-in-If.new.marks (vars_of (stmt a)) (vars_of (stmt b)) _ c.mark_statement.ensures c.mark_statement-in-If.ensures refl)
    (ap (λ x. vars_of (stmt x)) c.in-If.is
    ∙ (ap (λ x. test ++ (vars_of (stmt x) ++ vars_of (stmt c.in-If.no.value))) (sym c.deref.ensures) ∙ ap (λ x. test ++ (vars_of (stmt a) ++ vars_of (stmt x))) (sym c.deref-in-If.ensures)))

pub mark_statement-returns-in-PutAt : goal.mark_statement-returns-in-PutAt
mark_statement-returns-in-PutAt t c =
    let row = count_up c.in-PutAt.variable c.in-PutAt.length in
    let i = vars_in (expr c.in-PutAt.index) in
    let e = vars_in (expr c.in-PutAt.value) in
    marks_two c.args.marks.now c.mark_array.new.marks c.mark_expression-in-PutAt-2.new.marks row (i ++ e) (vars_of (stmt c.args.s.now)) c.mark_array.ensures
    (marks_two c.mark_array.new.marks c.mark_expression-in-PutAt.new.marks c.mark_expression-in-PutAt-2.new.marks i e _ c.mark_expression-in-PutAt.ensures c.mark_expression-in-PutAt-2.ensures refl)
    (ap (λ x. vars_of (stmt x)) c.in-PutAt.is)
