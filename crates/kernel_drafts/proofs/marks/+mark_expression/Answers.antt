use Rattle.std.proofs.Common.{◌∙◌, sym, ap, refl, ◌++◌}
use Rattle.forec_tree.specs.Faults.{is_in}
use Rattle.forec_kernel.specs.Plain.{expr, exprs}
use Rattle.forec_kernel.specs.WellFormed.{count_up}
use Rattle.text_kernel.specs.Lowering.{vars_in, vars_all}
use Rattle.kernel_drafts.specs.Marks.{is_marked}
use Rattle.lower_names.proofs.Statements.{drop_next}
use Rattle.kernel_calls.proofs.Formed.{of_call}
use Rattle.kernel_drafts.proofs.Marking.{marks_two, marks_as, marks_step}
use Rattle.std.proofs.Common.{◌+◌, ◌||◌, drop, length, arith}
use Rattle.kernel_drafts.proofs.marks.+mark_expression.Goals as goal

pub mark_all-loop-e-preserved : goal.mark_all-loop-e-preserved
mark_all-loop-e-preserved t c =
    let list = c.args.list.now in
    let next = drop_next list c.loop-e.e-index c.e-item.result c.loop-e-test.true (sym c.e-item.is) in
    let long = c.mark_expression.ensures.long in
    marks_step c.loop-e.marks c.mark_expression.new.marks (vars_in (expr c.e-item.result)) (vars_all (exprs (drop (c.loop-e.e-index + 1) list))) (vars_all (exprs (drop c.loop-e.e-index list)))
    (λ v. is_marked c.args.marks.now v || is_in v (vars_all (exprs list))) (length c.mark_expression.new.marks) c.mark_expression.ensures (ap (λ l. vars_all (exprs l)) next) (omega arith)
    (λ v l. c.loop-e.invariant v (omega (arith, l, long)))

pub mark_expression-returns-in-And : goal.mark_expression-returns-in-And
mark_expression-returns-in-And t c =
    let a = c.deref-in-And.result.now in
    let b = c.deref-in-And-2.result.now in
    marks_two c.args.marks.now c.mark_expression-in-And.new.marks c.mark_expression-in-And-2.new.marks (vars_in (expr a)) (vars_in (expr b)) (vars_in (expr c.args.e.now)) c.mark_expression-in-And.ensures c.mark_expression-in-And-2.ensures
    (ap (λ x. vars_in (expr x)) c.in-And.is
    ∙ (ap (λ x. vars_in (expr x) ++ vars_in (expr c.in-And.right.value)) (sym c.deref-in-And.ensures) ∙ ap (λ x. vars_in (expr a) ++ vars_in (expr x)) (sym c.deref-in-And-2.ensures)))

pub mark_expression-returns-in-Or : goal.mark_expression-returns-in-Or
mark_expression-returns-in-Or t c =
    let a = c.deref-in-Or.result.now in
    let b = c.deref-in-Or-2.result.now in
    marks_two c.args.marks.now c.mark_expression-in-Or.new.marks c.mark_expression-in-Or-2.new.marks (vars_in (expr a)) (vars_in (expr b)) (vars_in (expr c.args.e.now)) c.mark_expression-in-Or.ensures c.mark_expression-in-Or-2.ensures
    (ap (λ x. vars_in (expr x)) c.in-Or.is
    ∙ (ap (λ x. vars_in (expr x) ++ vars_in (expr c.in-Or.right.value)) (sym c.deref-in-Or.ensures) ∙ ap (λ x. vars_in (expr a) ++ vars_in (expr x)) (sym c.deref-in-Or-2.ensures)))

pub mark_expression-returns-in-Binary : goal.mark_expression-returns-in-Binary
mark_expression-returns-in-Binary t c =
    let a = c.deref-in-Binary.result.now in
    let b = c.deref-in-Binary-2.result.now in
    marks_two c.args.marks.now c.mark_expression-in-Binary.new.marks c.mark_expression-in-Binary-2.new.marks (vars_in (expr a)) (vars_in (expr b)) (vars_in (expr c.args.e.now)) c.mark_expression-in-Binary.ensures c.mark_expression-in-Binary-2.ensures
    (ap (λ x. vars_in (expr x)) c.in-Binary.is
    ∙ (ap (λ x. vars_in (expr x) ++ vars_in (expr c.in-Binary.right.value)) (sym c.deref-in-Binary.ensures) ∙ ap (λ x. vars_in (expr a) ++ vars_in (expr x)) (sym c.deref-in-Binary-2.ensures)))

pub mark_expression-returns-in-Choose : goal.mark_expression-returns-in-Choose
mark_expression-returns-in-Choose t c =
    let a = c.deref-in-Choose.result.now in
    let b = c.deref-in-Choose-2.result.now in
    let d = c.deref-in-Choose-3.result.now in
    marks_two c.args.marks.now c.mark_expression-in-Choose.new.marks c.mark_expression-in-Choose-3.new.marks (vars_in (expr a)) (vars_in (expr b) ++ vars_in (expr d)) (vars_in (expr c.args.e.now)) c.mark_expression-in-Choose.ensures
    (marks_two c.mark_expression-in-Choose.new.marks c.mark_expression-in-Choose-2.new.marks c.mark_expression-in-Choose-3.new.marks (vars_in (expr b)) (vars_in (expr d)) _ c.mark_expression-in-Choose-2.ensures
    c.mark_expression-in-Choose-3.ensures refl)
    (ap (λ x. vars_in (expr x)) c.in-Choose.is
    ∙ (ap (λ x. vars_in (expr x) ++ (vars_in (expr c.in-Choose.yes.value) ++ vars_in (expr c.in-Choose.no.value))) (sym c.deref-in-Choose.ensures)
    ∙ (ap (λ x. vars_in (expr a) ++ (vars_in (expr x) ++ vars_in (expr c.in-Choose.no.value))) (sym c.deref-in-Choose-2.ensures)
    ∙ ap (λ x. vars_in (expr a) ++ (vars_in (expr b) ++ vars_in (expr x))) (sym c.deref-in-Choose-3.ensures))))

pub mark_expression-returns-in-Call : goal.mark_expression-returns-in-Call
mark_expression-returns-in-Call t c =
    marks_as c.args.marks.now c.mark_all.new.marks (vars_all (exprs c.as_slice.result.now)) (vars_in (expr c.args.e.now)) c.mark_all.ensures
    (of_call vars_in c.args.e.now c.in-Call.function c.in-Call.args c.as_slice.result.now c.in-Call.is c.as_slice.ensures.value)

pub mark_expression-returns-in-SharedAt : goal.mark_expression-returns-in-SharedAt
mark_expression-returns-in-SharedAt t c =
    let i = c.deref-in-SharedAt.result.now in
    marks_two c.args.marks.now c.mark_array.new.marks c.mark_expression-in-SharedAt.new.marks (count_up c.in-SharedAt.variable c.in-SharedAt.length) (vars_in (expr i)) (vars_in (expr c.args.e.now)) c.mark_array.ensures
    c.mark_expression-in-SharedAt.ensures
    (ap (λ x. vars_in (expr x)) c.in-SharedAt.is ∙ ap (λ x. count_up c.in-SharedAt.variable c.in-SharedAt.length ++ vars_in (expr x)) (sym c.deref-in-SharedAt.ensures))
