use Rattle.std.proofs.Common.{◌≡◌, ◌++◌, [], ◌∷◌, length, ap, sym, ◌∙◌, subst, append_assoc, OnOk}
use Rattle.std.specs.Prelude.{pos}
use Rattle.forec_kernel.specs.Plain.{expr, exprs}
use Rattle.forec_kernel.specs.Terms as plain
use Rattle.forec_kernel.proofs.VecTerms.{expr-call}
use Rattle.thread_code.specs.declared.instruction.Instruction.TheVariants as instruction
use Rattle.code_gen.specs.Expressions.{expression_code, expressions_code}
use Rattle.code_gen.proofs.Patch.{patch_sides, patch_if}
use Rattle.code_gen.proofs.expressions.+expression.Goals as goal

pub emit_expression-returns-in_ok-emit_expressions-in-Call : goal.emit_expression-returns-in_ok-emit_expressions-in-Call
emit_expression-returns-in_ok-emit_expressions-in-Call t c =
    let base = c.args.steps.now.items in
    let f = c.in-Call.function in
    let xs = exprs c.in-Call.args.items in
    let end = instruction.Call f ∷ [] in
    let same : expr c.args.expression.now ≡ plain.Call f xs = ap expr c.in-Call.is ∙ expr-call f c.in-Call.args in
    let args : c.emit_expressions.new.steps.items ≡ base ++ expressions_code (length base) xs = c.in_ok-emit_expressions-in-Call.ensures ∙ ap (λ l. base ++ expressions_code (length base) (exprs l)) c.deref-in-Call.ensures.value in
    let e : c.emit_expressions.new.steps.items ++ end ≡ base ++ expression_code (length base) (expr c.args.expression.now) =
    ap (λ l. l ++ end) args ∙ append_assoc base (expressions_code (length base) xs) end ∙ ap (λ x. base ++ expression_code (length base) x) (sym same) in
    subst (λ l. OnOk c.put-in-Call.result (c.put-in-Call.new.steps.items ≡ l)) e c.put-in-Call.ensures

pub emit_expression-returns-in_ok-to-in-And : goal.emit_expression-returns-in_ok-to-in-And
emit_expression-returns-in_ok-to-in-And t c =
    let base = c.args.steps.now.items in
    let len = length base in
    patch_sides base _ _ _ _ (expr c.deref-in-And.result.now) (expr c.deref-in-And-2.result.now) _ (λ to. instruction.Zero to) (pos 0) _ _ c.in_ok-emit_expression-in-And.ensures
    (c.len-test.ensures ∙ c.emit_expression-in-And.new.steps.ok.0) c.in_ok-put-in-And.ensures c.in_ok-emit_expression-in-And-2.ensures c.in_ok-to-in-And.ensures.code c.in_ok-to-in-And.ensures.at
    ∙ ap (λ x. base ++ expression_code len (plain.And (expr x) (expr c.deref-in-And-2.result.now))) c.deref-in-And.ensures
    ∙ ap (λ x. base ++ expression_code len (plain.And (expr c.in-And.left.value) (expr x))) c.deref-in-And-2.ensures
    ∙ ap (λ x. base ++ expression_code len (expr x)) (sym c.in-And.is)

pub emit_expression-returns-in_ok-to-in-Or : goal.emit_expression-returns-in_ok-to-in-Or
emit_expression-returns-in_ok-to-in-Or t c =
    let base = c.args.steps.now.items in
    let len = length base in
    patch_sides base _ _ _ _ (expr c.deref-in-Or.result.now) (expr c.deref-in-Or-2.result.now) _ (λ to. instruction.NonZero to) (pos 1) _ _ c.in_ok-emit_expression-in-Or.ensures
    (c.len-test-in-Or.ensures ∙ c.emit_expression-in-Or.new.steps.ok.0) c.in_ok-put-in-Or.ensures c.in_ok-emit_expression-in-Or-2.ensures c.in_ok-to-in-Or.ensures.code c.in_ok-to-in-Or.ensures.at
    ∙ ap (λ x. base ++ expression_code len (plain.Or (expr x) (expr c.deref-in-Or-2.result.now))) c.deref-in-Or.ensures
    ∙ ap (λ x. base ++ expression_code len (plain.Or (expr c.in-Or.left.value) (expr x))) c.deref-in-Or-2.ensures
    ∙ ap (λ x. base ++ expression_code len (expr x)) (sym c.in-Or.is)

pub emit_expression-returns-in_ok-end-in-Choose : goal.emit_expression-returns-in_ok-end-in-Choose
emit_expression-returns-in_ok-end-in-Choose t c =
    let base = c.args.steps.now.items in
    let len = length base in
    let test = expr c.deref-in-Choose.result.now in
    let then = expr c.deref-in-Choose-2.result.now in
    let other = expr c.deref-in-Choose-3.result.now in
    patch_if base _ _ _ _ _ (expression_code len test) (λ q. expression_code q then) (λ r. expression_code r other) _ _ _ _ _ _ c.in_ok-emit_expression-in-Choose.ensures
    (c.len-skip.ensures ∙ c.emit_expression-in-Choose.new.steps.ok.0) c.in_ok-put-in-Choose.ensures c.in_ok-emit_expression-in-Choose-2.ensures
    (c.len-leave.ensures ∙ c.emit_expression-in-Choose-2.new.steps.ok.0) c.in_ok-put-in-Choose-2.ensures c.in_ok-other-in-Choose.ensures.at c.in_ok-emit_expression-in-Choose-3.ensures c.in_ok-end-in-Choose.ensures.at
    ∙ ap (λ x. base ++ expression_code len (plain.Choose (expr x) then other)) c.deref-in-Choose.ensures
    ∙ ap (λ x. base ++ expression_code len (plain.Choose (expr c.in-Choose.test.value) (expr x) other)) c.deref-in-Choose-2.ensures
    ∙ ap (λ x. base ++ expression_code len (plain.Choose (expr c.in-Choose.test.value) (expr c.in-Choose.yes.value) (expr x))) c.deref-in-Choose-3.ensures
    ∙ ap (λ x. base ++ expression_code len (expr x)) (sym c.in-Choose.is)
