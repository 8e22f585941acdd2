use Rattle.std.proofs.Common.{◌∙◌, sym, ap}
use Rattle.forec_kernel.specs.Plain.{stmt, stmts}
use Rattle.forec_kernel.proofs.VecTerms.{stmt-sequence}
use Rattle.fold_laws.specs.Folding.{in_sequence, fold_stmt, fold_stmts}
use Rattle.kernel_fold.proofs.Lists.{stmts_step, stmts_end}
use Rattle.kernel_fold.proofs.statements.+statement.Goals as goal

pub fold_statements-loop-statement-preserved : goal.fold_statements-loop-statement-preserved
fold_statements-loop-statement-preserved t c =
    stmts_step c.args.list.now c.loop-statement.statement-index c.statement-item.result c.loop-statement.folded.items c.push.new.list.items c.in_ok-one.one _
    c.loop-statement-test.true (sym c.statement-item.is) c.in_ok-one.ensures c.in_ok-push.ensures c.loop-statement.invariant

pub fold_statements-returns : goal.fold_statements-returns
fold_statements-returns t c =
    stmts_end c.args.list.now c.loop-statement.statement-index c.loop-statement.folded.items _ c.loop-statement-test.false c.loop-statement.invariant

pub fold_statement-returns-in_ok-list-in-Sequence : goal.fold_statement-returns-in_ok-list-in-Sequence
fold_statement-returns-in_ok-list-in-Sequence t c =
    c.in_order.ensures ∙ ap in_sequence (c.in_ok-list-in-Sequence.ensures ∙ ap (λ q. fold_stmts (stmts q)) c.as_slice-items.ensures.value)
    ∙ sym (ap fold_stmt (ap stmt c.in-Sequence.is ∙ stmt-sequence c.in-Sequence.list))
