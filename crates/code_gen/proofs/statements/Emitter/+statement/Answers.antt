use Rattle.std.proofs.Common.{◌≡◌, ◌++◌, length, map, ap, sym, ◌∙◌, subst, OnOk}
use Rattle.forec_kernel.specs.Plain.{expr, stmt, stmts}
use Rattle.forec_kernel.specs.Shapes.{plain_thread}
use Rattle.forec_kernel.specs.Terms as plain
use Rattle.forec_kernel.proofs.VecTerms.{stmt-sequence}
use Rattle.code_gen.specs.Expressions.{expression_code}
use Rattle.code_gen.specs.Statements.{statement_code, statements_code}
use Rattle.code_gen.specs.Arounds.{plain_around, optional_instruction}
use Rattle.code_gen.proofs.Patch.{patch_if, patch_loop, abort_written}
use Rattle.code_gen.proofs.statements.Emitter.+statement.Goals as goal

pub emit_loop-returns : goal.emit_loop-returns
emit_loop-returns t c =
    let ts = map plain_thread c.args.surroundings.now.threads.now in
    let a = plain_around c.args.surroundings.now.around.now in
    let base = c.args.self.now.steps.items in
    patch_loop base _ _ _ _ _ (expression_code (length base) (expr c.args.test.now)) (optional_instruction c.args.turn) (λ b. statement_code ts a b (stmt c.args.body.now)) _ _ _ _ c.in_ok-head.ensures.at c.in_ok-emit_expression.ensures
    (c.len-skip.ensures ∙ c.emit_expression.new.steps.ok.0) c.in_ok-put.ensures c.in_ok-put_perhaps.ensures c.in_ok-emit_statement.ensures c.in_ok-put-2.ensures c.in_ok-end.ensures.at

pub emit_abort-returns-then-end-exit : goal.emit_abort-returns-then-end-exit
emit_abort-returns-then-end-exit t c =
    let ts = map plain_thread c.args.surroundings.now.threads.now in
    abort_written ts c.args.self.now.steps.items _ _ c.args.weak c.args.immediate (expr c.args.test.now) (stmt c.args.body.now) (plain_around c.args.surroundings.now.around.now) _ _ c.args.surroundings.now.flagged c.in_ok-exit.ensures c.in_ok-emit_statement.ensures
    (sym c.if-end-exit.true ∙ c.in_ok-end.ensures.at)

pub emit_statement-returns-in-Sequence : goal.emit_statement-returns-in-Sequence
emit_statement-returns-in-Sequence t c =
    let ts = map plain_thread c.args.surroundings.now.threads.now in
    let a = plain_around c.args.surroundings.now.around.now in
    let base = c.args.self.now.steps.items in
    let same : stmt c.args.statement.now ≡ plain.Seq (stmts c.in-Sequence.list.items) = ap stmt c.in-Sequence.is ∙ stmt-sequence c.in-Sequence.list in
    let e = ap (λ l. base ++ statements_code ts a (length base) (stmts l)) c.deref.ensures.value ∙ ap (λ x. base ++ statement_code ts a (length base) x) (sym same) in
    subst (λ l. OnOk c.emit_list.result (c.emit_list.new.self.steps.items ≡ l)) e c.emit_list.ensures

pub emit_statement-returns-in_ok-end-in-If : goal.emit_statement-returns-in_ok-end-in-If
emit_statement-returns-in_ok-end-in-If t c =
    let ts = map plain_thread c.args.surroundings.now.threads.now in
    let a = plain_around c.args.surroundings.now.around.now in
    let base = c.args.self.now.steps.items in
    let len = length base in
    let test = expr c.in-If.test in
    let then = stmt c.deref-in-If.result.now in
    let other = stmt c.deref-in-If-2.result.now in
    patch_if base _ _ _ _ _ (expression_code len test) (λ q. statement_code ts a q then) (λ r. statement_code ts a r other) _ _ _ _ _ _ c.in_ok-emit_expression-in-If.ensures
    (c.len-skip.ensures ∙ c.emit_expression-in-If.new.steps.ok.0) c.in_ok-put-in-If.ensures c.in_ok-emit_statement-in-If.ensures
    (c.len-leave.ensures ∙ c.emit_statement.new.self.steps.ok.0) c.in_ok-put-in-If-2.ensures c.in_ok-other-in-If.ensures.at c.in_ok-emit_statement-in-If-2.ensures c.in_ok-end-in-If.ensures.at
    ∙ ap (λ x. base ++ statement_code ts a len (plain.If test (stmt x) other)) c.deref-in-If.ensures
    ∙ ap (λ x. base ++ statement_code ts a len (plain.If test (stmt c.in-If.yes.value) (stmt x))) c.deref-in-If-2.ensures
    ∙ ap (λ x. base ++ statement_code ts a len (stmt x)) (sym c.in-If.is)
