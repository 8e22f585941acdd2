use Rattle.std.proofs.Common.{◌≡◌, ◌∙◌, sym, ap, refl, map}
use Rattle.std.proofs.lemmas.Result.{on_ok_weaker}
use Rattle.forec_tree.specs.Plain as plain
use Rattle.forec_tree.specs.Terms.{Statement}
use Rattle.forec_tree.specs.Scopes.{inner_scope, after, after_perhaps, with_locals}
use Rattle.forec_tree.specs.Findings.{in_statement}
use Rattle.forec_tree.proofs.Rows.{of_kind, of_group, of_abort, of_if, of_for, of_par}
use Rattle.forec_tree.specs.Plain.{perhaps_of}
use Rattle.program_walk.specs.Views.{judging_in, text_in, scope_of}
use Rattle.program_walk.specs.Walk.{notes_of, walked}
use Rattle.program_walk.proofs.WalkLemmas.{walked-none}
use Rattle.program_walk.proofs.Parts.{two, three, then}
use Rattle.program_walk.proofs.Statements.{of_statement, group_is, declare_is, run_is, inside, abort_is, while_is, statements_step, statements_end}
use Rattle.program_walk.proofs.WalkBranches.{no_statement, perhaps_in, optional_in, body_in, for_is, branch_call, branch_block, branches_step, branches_end}
use Rattle.program_walk.proofs.ScopeLaws.{framed_on, framed_none, same_framed, same_none, same_on, same_scope, left}
use Rattle.program_walk.proofs.walk.context.Context.+statement.Goals as goal

pub branch-returns-in_ok-use_name-in-Call-clause-notes : goal.branch-returns-in_ok-use_name-in-Call-clause-notes
branch-returns-in_ok-use_name-in-Call-clause-notes t c =
    on_ok_weaker c.expressions.result (λ h. branch_call _ _ _ _ (notes_of c.use_name.new.notes) (notes_of c.expressions.new.notes) c.args.one.now c.in-Call.name c.in-Call.args c.as_slice.result.now c.len.result
    c.in-Call.is c.len.ensures c.as_slice.ensures c.in_ok-use_name-in-Call.ensures h)
    c.expressions.ensures

pub branch-returns-in_ok-branch_block-in-Group-clause-notes : goal.branch-returns-in_ok-branch_block-in-Group-clause-notes
branch-returns-in_ok-branch_block-in-Group-clause-notes t c =
    on_ok_weaker c.close_branch.result (λ h. branch_block _ _ _ _ (notes_of c.open_branch.new.notes) (notes_of c.branch_block.new.notes) (notes_of c.close_branch.new.notes) c.args.one.now c.in-Group.place c.in-Group.body
    c.as_slice-in-Group.result.now c.in-Group.is c.as_slice-in-Group.ensures c.in_ok-open_branch-in-Group.ensures c.in_ok-branch_block-in-Group.ensures.notes h)
    c.close_branch.ensures

pub branches-loop-one-preserved : goal.branches-loop-one-preserved
branches-loop-one-preserved t c = (
  branches_step _ _ _ c.args.all.now c.loop-one.one-index c.one-item.result (scope_of c.loop-one.scope) (notes_of c.loop-one.notes) _ _ c.loop-one-test.true (sym c.one-item.is)
      (same_scope c.args.scope.now c.loop-one.scope c.loop-one.invariant.1) c.in_ok-branch.ensures.notes c.loop-one.invariant.0,
  same_on c.args.scope.now c.loop-one.scope _ c.loop-one.invariant.1 c.in_ok-branch.ensures.same,
)

pub branches-returns-clause-notes : goal.branches-returns-clause-notes
branches-returns-clause-notes t c =
    branches_end _ _ _ c.args.all.now c.loop-one.one-index (notes_of c.loop-one.notes) _ c.loop-one-test.false c.loop-one.invariant.0

pub statements-loop-s-preserved : goal.statements-loop-s-preserved
statements-loop-s-preserved t c =
    let r = scope_of c.loop-s.scope in (
      statements_step _ _ r c.args.body.now c.loop-s.s-index c.s-item.result _ (notes_of c.loop-s.notes) (notes_of c.statement.new.notes) _ c.loop-s-test.true (sym c.s-item.is)
          c.in_ok-statement.ensures.scope c.in_ok-statement.ensures.notes c.loop-s.invariant.0,
      framed_on c.args.scope.now c.loop-s.scope c.statement.new.scope c.loop-s.invariant.1 c.in_ok-statement.ensures.frame,
    )

pub statements-returns-clause-notes : goal.statements-returns-clause-notes
statements-returns-clause-notes t c =
    statements_end _ _ (scope_of c.loop-s.scope) c.args.body.now c.loop-s.s-index (notes_of c.loop-s.notes) _ c.loop-s-test.false c.loop-s.invariant.0

pub optional_scoped_statement-returns-in-None-clause-notes : goal.optional_scoped_statement-returns-in-None-clause-notes
optional_scoped_statement-returns-in-None-clause-notes t c =
    no_statement _ _ (inner_scope (scope_of c.args.scope.now)) _ c.args.s.now c.in-None.is

pub optional_statement-returns-in-None-clause-notes : goal.optional_statement-returns-in-None-clause-notes
optional_statement-returns-in-None-clause-notes t c =
    no_statement _ _ _ _ c.args.s.now c.in-None.is

pub statement-returns-in-Nothing-clause-notes : goal.statement-returns-in-Nothing-clause-notes
statement-returns-in-Nothing-clause-notes t c =
    of_statement _ _ _ _ _ c.args.s.now _ c.in-Nothing.is
    (sym (walked-none _ _))

pub statement-returns-in-Group-clause-notes : goal.statement-returns-in-Group-clause-notes
statement-returns-in-Group-clause-notes t c =
    on_ok_weaker c.block.result (λ h. of_statement _ _ _ _ _ c.args.s.now _ c.in-Group.is
    (group_is _ _ (scope_of c.args.scope.now) (notes_of c.args.notes.now) (notes_of c.block.new.notes) c.args.s.now.place c.in-Group.body c.as_slice.result.now c.as_slice.ensures h))
    c.block.ensures.notes

pub statement-returns-in_ok-target-in-Assign-clause-notes : goal.statement-returns-in_ok-target-in-Assign-clause-notes
statement-returns-in_ok-target-in-Assign-clause-notes t c =
    on_ok_weaker c.expression.result (λ h. of_statement _ _ _ _ _ c.args.s.now _ c.in-Assign.is
    (two _ _ _ _ (notes_of c.target.new.notes) (notes_of c.expression.new.notes) c.in_ok-target-in-Assign.ensures h))
    c.expression.ensures

pub statement-returns-in_ok-use_name-in-Call-clause-notes : goal.statement-returns-in_ok-use_name-in-Call-clause-notes
statement-returns-in_ok-use_name-in-Call-clause-notes t c =
    on_ok_weaker c.expressions.result (λ h. of_statement _ _ _ _ _ c.args.s.now _ c.in-Call.is
    (run_is _ _ _ _ (notes_of c.use_name.new.notes) (notes_of c.expressions.new.notes) c.in-Call.name c.in-Call.args c.as_slice-in-Call.result.now c.len.result c.len.ensures c.as_slice-in-Call.ensures
    c.in_ok-use_name-in-Call.ensures h))
    c.expressions.ensures

pub statement-returns-in_ok-scoped_statement-in-If-clause-notes : goal.statement-returns-in_ok-scoped_statement-in-If-clause-notes
statement-returns-in_ok-scoped_statement-in-If-clause-notes t c =
    on_ok_weaker c.optional_scoped_statement.result (λ h. let j = judging_in c.args.self.now in
    let text = text_in c.args.self.now in
    let s = scope_of c.args.scope.now in
    let k = notes_of c.args.notes.now in
    three j _ _ _ k (notes_of c.expression-in-If.new.notes) (notes_of c.scoped_statement.new.notes) (notes_of c.optional_scoped_statement.new.notes) c.in_ok-expression-in-If.ensures
    (body_in j text (inner_scope s) (inner_scope s) _ _ _ _ refl c.deref.ensures c.in_ok-scoped_statement-in-If.ensures.notes)
    (perhaps_in j text (inner_scope s) (inner_scope (scope_of c.scoped_statement.new.scope)) _ _ (perhaps_of c.in-If.no)
    (ap inner_scope (same_scope c.args.scope.now c.scoped_statement.new.scope c.in_ok-scoped_statement-in-If.ensures.same)) h)
    ∙ of_if (λ x. walked j (in_statement text s x) k) c.args.s.now c.in-If.test c.in-If.yes c.in-If.no c.in-If.is)
    c.optional_scoped_statement.ensures.notes

pub statement-returns-in_ok-expression-in-While-clause-notes : goal.statement-returns-in_ok-expression-in-While-clause-notes
statement-returns-in_ok-expression-in-While-clause-notes t c =
    on_ok_weaker c.scoped_statement-in-While.result (λ h. of_statement _ _ _ _ _ c.args.s.now _ c.in-While.is
    (while_is _ (text_in c.args.self.now) (scope_of c.args.scope.now) _ (notes_of c.bound.new.notes) (notes_of c.expression-in-While.new.notes) (notes_of c.scoped_statement-in-While.new.notes) _ c.in-While.bound _ _
    c.bound.ensures c.in_ok-expression-in-While.ensures
    (body_in _ _ (inner_scope (scope_of c.args.scope.now)) (inner_scope (scope_of c.args.scope.now)) _ _ _ _ refl c.deref-in-While.ensures h)))
    c.scoped_statement-in-While.ensures.notes

pub statement-returns-in_ok-scoped_statement-in-For-clause-notes : goal.statement-returns-in_ok-scoped_statement-in-For-clause-notes
statement-returns-in_ok-scoped_statement-in-For-clause-notes t c =
    let j = judging_in c.args.self.now in
    let text = text_in c.args.self.now in
    let s = scope_of c.args.scope.now in
    let k = notes_of c.args.notes.now in
    let F = λ (x : Statement). walked j (in_statement text s x) k in
    let s1 = c.enter-outer.ensures.scope in
    let s2 = c.in_ok-optional_statement-in-For.ensures.scope ∙ ap (λ x. after_perhaps x (perhaps_of c.in-For.start)) s1 in
    let s3 = c.in_ok-optional_statement-in-For-2.ensures.scope ∙ ap (λ x. after_perhaps x (perhaps_of c.in-For.step)) s2 in
    for_is j text s k (notes_of c.bound-in-For.new.notes) (notes_of c.optional_statement.new.notes) (notes_of c.optional_expression.new.notes)
    (notes_of c.optional_statement-in-For.new.notes) (notes_of c.scoped_statement-in-For.new.notes) _ c.in-For.bound _ _ _ _
    c.bound-in-For.ensures
    (perhaps_in j text (inner_scope s) _ _ _ (perhaps_of c.in-For.start) s1 c.in_ok-optional_statement-in-For.ensures.notes)
    (optional_in j text _ _ _ _ (plain.optional_term c.in-For.test) s2 c.in_ok-optional_expression-in-For.ensures)
    (perhaps_in j text _ _ _ _ (perhaps_of c.in-For.step) s2 c.in_ok-optional_statement-in-For-2.ensures.notes)
    (body_in j text _ _ _ _ _ _ (ap inner_scope s3) c.deref-in-For.ensures c.in_ok-scoped_statement-in-For.ensures.notes)
    ∙ of_for F c.args.s.now c.in-For.start c.in-For.step c.in-For.test c.in-For.bound c.in-For.body c.in-For.is

pub statement-returns-in-Par-clause-notes : goal.statement-returns-in-Par-clause-notes
statement-returns-in-Par-clause-notes t c =
    on_ok_weaker c.branches.result (λ h. let j = judging_in c.args.self.now in
    let text = text_in c.args.self.now in
    let s = scope_of c.args.scope.now in
    let k = notes_of c.args.notes.now in
    then j _ _ k (notes_of c.judge_synchronous-in-Par.new.notes) (notes_of c.branches.new.notes) c.judge_synchronous-in-Par.ensures h
    ∙ of_par (λ x. walked j (in_statement text s x) k) c.args.s.now c.in-Par.list c.as_slice-in-Par.result.now c.in-Par.is c.as_slice-in-Par.ensures)
    c.branches.ensures.notes

pub statement-returns-in_ok-expression-in-Abort-clause-notes : goal.statement-returns-in_ok-expression-in-Abort-clause-notes
statement-returns-in_ok-expression-in-Abort-clause-notes t c =
    on_ok_weaker c.block-in-Abort.result (λ h. of_statement _ _ _ _ _ c.args.s.now _ c.in-Abort.is
    (abort_is _ _ _ _ (notes_of c.judge_synchronous-in-Abort.new.notes) (notes_of c.expression-in-Abort.new.notes) (notes_of c.block-in-Abort.new.notes) c.in-Abort.weak c.in-Abort.immediate c.in-Abort.test c.in-Abort.body
    c.as_slice-in-Abort.result.now c.args.s.now.place c.as_slice-in-Abort.ensures c.judge_synchronous-in-Abort.ensures c.in_ok-expression-in-Abort.ensures h))
    c.block-in-Abort.ensures.notes

pub statement-returns-in-Return-clause-notes : goal.statement-returns-in-Return-clause-notes
statement-returns-in-Return-clause-notes t c =
    on_ok_weaker c.expression-in-Return.result (λ h. of_statement _ _ _ _ _ c.args.s.now _ c.in-Return.is
    (then _ _ _ _ (notes_of c.judge_return.new.notes) (notes_of c.expression-in-Return.new.notes) c.judge_return.ensures h))
    c.expression-in-Return.ensures

-- ---- the scope after a statement

pub statement-returns-in-Nothing-clause-scope : goal.statement-returns-in-Nothing-clause-scope
statement-returns-in-Nothing-clause-scope t c = of_kind (after (scope_of c.args.scope.now)) c.args.s.now _ c.in-Nothing.is

pub statement-returns-in-Nothing-clause-frame : goal.statement-returns-in-Nothing-clause-frame
statement-returns-in-Nothing-clause-frame t c = framed_none c.args.scope.now

pub statement-returns-in-Group-clause-scope : goal.statement-returns-in-Group-clause-scope
statement-returns-in-Group-clause-scope t c =
    on_ok_weaker c.block.result (λ h. same_scope c.args.scope.now c.block.new.scope h
    ∙ of_group (after (scope_of c.args.scope.now)) c.args.s.now c.in-Group.body c.as_slice.result.now c.in-Group.is c.as_slice.ensures)
    c.block.ensures.same

pub statement-returns-in-Group-clause-frame : goal.statement-returns-in-Group-clause-frame
statement-returns-in-Group-clause-frame t c =
    on_ok_weaker c.block.result (λ h. same_framed c.args.scope.now c.block.new.scope h)
    c.block.ensures.same

pub statement-returns-in-Declare-clause-notes : goal.statement-returns-in-Declare-clause-notes
statement-returns-in-Declare-clause-notes t c =
    on_ok_weaker c.locals.result (λ h. of_statement _ _ _ _ _ c.args.s.now _ c.in-Declare.is
    (declare_is _ _ _ _ (notes_of c.locals.new.notes) c.in-Declare.list c.as_slice-in-Declare.result.now c.as_slice-in-Declare.ensures h))
    c.locals.ensures.notes

pub statement-returns-in-Declare-clause-scope : goal.statement-returns-in-Declare-clause-scope
statement-returns-in-Declare-clause-scope t c =
    on_ok_weaker c.locals.result (λ h. let s = scope_of c.args.scope.now in
    h ∙ ap (λ x. with_locals s (map plain.declared x)) c.as_slice-in-Declare.ensures ∙ of_kind (after s) c.args.s.now _ c.in-Declare.is)
    c.locals.ensures.scope

pub statement-returns-in-Declare-clause-frame : goal.statement-returns-in-Declare-clause-frame
statement-returns-in-Declare-clause-frame t c = c.locals.ensures.frame

pub statement-returns-in_ok-target-in-Assign-clause-scope : goal.statement-returns-in_ok-target-in-Assign-clause-scope
statement-returns-in_ok-target-in-Assign-clause-scope t c =
    on_ok_weaker c.expression.result (λ h. of_kind (after (scope_of c.args.scope.now)) c.args.s.now _ c.in-Assign.is)
    c.expression.ensures

pub statement-returns-in_ok-target-in-Assign-clause-frame : goal.statement-returns-in_ok-target-in-Assign-clause-frame
statement-returns-in_ok-target-in-Assign-clause-frame t c =
    on_ok_weaker c.expression.result (λ h. framed_none c.args.scope.now)
    c.expression.ensures

pub statement-returns-in_ok-use_name-in-Call-clause-scope : goal.statement-returns-in_ok-use_name-in-Call-clause-scope
statement-returns-in_ok-use_name-in-Call-clause-scope t c =
    on_ok_weaker c.expressions.result (λ h. of_kind (after (scope_of c.args.scope.now)) c.args.s.now _ c.in-Call.is)
    c.expressions.ensures

pub statement-returns-in_ok-use_name-in-Call-clause-frame : goal.statement-returns-in_ok-use_name-in-Call-clause-frame
statement-returns-in_ok-use_name-in-Call-clause-frame t c =
    on_ok_weaker c.expressions.result (λ h. framed_none c.args.scope.now)
    c.expressions.ensures

pub statement-returns-in_ok-scoped_statement-in-If-clause-scope : goal.statement-returns-in_ok-scoped_statement-in-If-clause-scope
statement-returns-in_ok-scoped_statement-in-If-clause-scope t c =
    on_ok_weaker c.optional_scoped_statement.result (λ h. let old = c.args.scope.now in
    same_scope old c.optional_scoped_statement.new.scope (same_on old c.scoped_statement.new.scope c.optional_scoped_statement.new.scope c.in_ok-scoped_statement-in-If.ensures.same h)
    ∙ of_if (after (scope_of old)) c.args.s.now c.in-If.test c.in-If.yes c.in-If.no c.in-If.is)
    c.optional_scoped_statement.ensures.same

pub statement-returns-in_ok-scoped_statement-in-If-clause-frame : goal.statement-returns-in_ok-scoped_statement-in-If-clause-frame
statement-returns-in_ok-scoped_statement-in-If-clause-frame t c =
    on_ok_weaker c.optional_scoped_statement.result (λ h. let old = c.args.scope.now in
    same_framed old c.optional_scoped_statement.new.scope (same_on old c.scoped_statement.new.scope c.optional_scoped_statement.new.scope c.in_ok-scoped_statement-in-If.ensures.same h))
    c.optional_scoped_statement.ensures.same

pub statement-returns-in_ok-expression-in-While-clause-scope : goal.statement-returns-in_ok-expression-in-While-clause-scope
statement-returns-in_ok-expression-in-While-clause-scope t c =
    on_ok_weaker c.scoped_statement-in-While.result (λ h. same_scope c.args.scope.now c.scoped_statement-in-While.new.scope h ∙ of_kind (after (scope_of c.args.scope.now)) c.args.s.now _ c.in-While.is)
    c.scoped_statement-in-While.ensures.same

pub statement-returns-in_ok-expression-in-While-clause-frame : goal.statement-returns-in_ok-expression-in-While-clause-frame
statement-returns-in_ok-expression-in-While-clause-frame t c =
    on_ok_weaker c.scoped_statement-in-While.result (λ h. same_framed c.args.scope.now c.scoped_statement-in-While.new.scope h)
    c.scoped_statement-in-While.ensures.same

pub statement-returns-in-Pause-clause-notes : goal.statement-returns-in-Pause-clause-notes
statement-returns-in-Pause-clause-notes t c =
    of_statement _ (text_in c.args.self.now) (scope_of c.args.scope.now) (notes_of c.args.notes.now) _ c.args.s.now _ c.in-Pause.is c.judge_synchronous.ensures

pub statement-returns-in-Pause-clause-scope : goal.statement-returns-in-Pause-clause-scope
statement-returns-in-Pause-clause-scope t c = of_kind (after (scope_of c.args.scope.now)) c.args.s.now _ c.in-Pause.is

pub statement-returns-in-Pause-clause-frame : goal.statement-returns-in-Pause-clause-frame
statement-returns-in-Pause-clause-frame t c = framed_none c.args.scope.now

pub statement-returns-in-Par-clause-scope : goal.statement-returns-in-Par-clause-scope
statement-returns-in-Par-clause-scope t c =
    on_ok_weaker c.branches.result (λ h. same_scope c.args.scope.now c.branches.new.scope h
    ∙ of_par (after (scope_of c.args.scope.now)) c.args.s.now c.in-Par.list c.as_slice-in-Par.result.now c.in-Par.is c.as_slice-in-Par.ensures)
    c.branches.ensures.same

pub statement-returns-in-Par-clause-frame : goal.statement-returns-in-Par-clause-frame
statement-returns-in-Par-clause-frame t c =
    on_ok_weaker c.branches.result (λ h. same_framed c.args.scope.now c.branches.new.scope h)
    c.branches.ensures.same

pub statement-returns-in_ok-expression-in-Abort-clause-scope : goal.statement-returns-in_ok-expression-in-Abort-clause-scope
statement-returns-in_ok-expression-in-Abort-clause-scope t c =
    on_ok_weaker c.block-in-Abort.result (λ h. same_scope c.args.scope.now c.block-in-Abort.new.scope h
    ∙ of_abort (after (scope_of c.args.scope.now)) c.args.s.now c.in-Abort.weak c.in-Abort.immediate c.in-Abort.test c.in-Abort.body c.as_slice-in-Abort.result.now c.in-Abort.is c.as_slice-in-Abort.ensures)
    c.block-in-Abort.ensures.same

pub statement-returns-in_ok-expression-in-Abort-clause-frame : goal.statement-returns-in_ok-expression-in-Abort-clause-frame
statement-returns-in_ok-expression-in-Abort-clause-frame t c =
    on_ok_weaker c.block-in-Abort.result (λ h. same_framed c.args.scope.now c.block-in-Abort.new.scope h)
    c.block-in-Abort.ensures.same

pub statement-returns-in-Return-clause-scope : goal.statement-returns-in-Return-clause-scope
statement-returns-in-Return-clause-scope t c =
    on_ok_weaker c.expression-in-Return.result (λ h. of_kind (after (scope_of c.args.scope.now)) c.args.s.now _ c.in-Return.is)
    c.expression-in-Return.ensures

pub statement-returns-in-Return-clause-frame : goal.statement-returns-in-Return-clause-frame
statement-returns-in-Return-clause-frame t c =
    on_ok_weaker c.expression-in-Return.result (λ h. framed_none c.args.scope.now)
    c.expression-in-Return.ensures

pub branch-returns-in_ok-use_name-in-Call-clause-same : goal.branch-returns-in_ok-use_name-in-Call-clause-same
branch-returns-in_ok-use_name-in-Call-clause-same t c =
    on_ok_weaker c.expressions.result (λ h. same_none c.args.scope.now) c.expressions.ensures

pub branch-returns-in_ok-branch_block-in-Group-clause-same : goal.branch-returns-in_ok-branch_block-in-Group-clause-same
branch-returns-in_ok-branch_block-in-Group-clause-same t c =
    on_ok_weaker c.close_branch.result (λ h. c.in_ok-branch_block-in-Group.ensures.same) c.close_branch.ensures

pub statement-returns-in_ok-scoped_statement-in-For-clause-scope : goal.statement-returns-in_ok-scoped_statement-in-For-clause-scope
statement-returns-in_ok-scoped_statement-in-For-clause-scope t c =
    same_scope c.args.scope.now c.leave.new.self (left c.args.scope.now c.enter-outer.new.self c.scoped_statement-in-For.new.scope c.leave.new.self c.enter-outer.result c.enter-outer.ensures.list c.enter-outer.ensures.inside.1
    (framed_on c.enter-outer.new.self c.optional_statement.new.scope c.scoped_statement-in-For.new.scope c.in_ok-optional_statement-in-For.ensures.frame
    (framed_on c.optional_statement.new.scope c.optional_statement-in-For.new.scope c.scoped_statement-in-For.new.scope c.in_ok-optional_statement-in-For-2.ensures.frame
    (same_framed c.optional_statement-in-For.new.scope c.scoped_statement-in-For.new.scope c.in_ok-scoped_statement-in-For.ensures.same)))
    c.leave.ensures.list c.leave.ensures.frame.0 c.leave.ensures.frame.1 c.enter-outer.ensures.frame.0 c.enter-outer.ensures.frame.1)
    ∙ of_for (after (scope_of c.args.scope.now)) c.args.s.now c.in-For.start c.in-For.step c.in-For.test c.in-For.bound c.in-For.body c.in-For.is

pub statement-returns-in_ok-scoped_statement-in-For-clause-frame : goal.statement-returns-in_ok-scoped_statement-in-For-clause-frame
statement-returns-in_ok-scoped_statement-in-For-clause-frame t c =
    same_framed c.args.scope.now c.leave.new.self (left c.args.scope.now c.enter-outer.new.self c.scoped_statement-in-For.new.scope c.leave.new.self c.enter-outer.result c.enter-outer.ensures.list c.enter-outer.ensures.inside.1
    (framed_on c.enter-outer.new.self c.optional_statement.new.scope c.scoped_statement-in-For.new.scope c.in_ok-optional_statement-in-For.ensures.frame
    (framed_on c.optional_statement.new.scope c.optional_statement-in-For.new.scope c.scoped_statement-in-For.new.scope c.in_ok-optional_statement-in-For-2.ensures.frame
    (same_framed c.optional_statement-in-For.new.scope c.scoped_statement-in-For.new.scope c.in_ok-scoped_statement-in-For.ensures.same)))
    c.leave.ensures.list c.leave.ensures.frame.0 c.leave.ensures.frame.1 c.enter-outer.ensures.frame.0 c.enter-outer.ensures.frame.1)

pub scoped_statement-returns-clause-same : goal.scoped_statement-returns-clause-same
scoped_statement-returns-clause-same t c =
    left c.args.scope.now c.enter-outer.new.self c.statement.new.scope c.leave.new.self c.enter-outer.result c.enter-outer.ensures.list c.enter-outer.ensures.inside.1
    c.in_ok-statement.ensures.frame
    c.leave.ensures.list c.leave.ensures.frame.0 c.leave.ensures.frame.1 c.enter-outer.ensures.frame.0 c.enter-outer.ensures.frame.1

pub block-returns-clause-same : goal.block-returns-clause-same
block-returns-clause-same t c =
    left c.args.scope.now c.enter-outer.new.self c.statements.new.scope c.leave.new.self c.enter-outer.result c.enter-outer.ensures.list c.enter-outer.ensures.inside.1
    c.in_ok-statements.ensures.frame
    c.leave.ensures.list c.leave.ensures.frame.0 c.leave.ensures.frame.1 c.enter-outer.ensures.frame.0 c.enter-outer.ensures.frame.1

pub branch_block-returns-clause-same : goal.branch_block-returns-clause-same
branch_block-returns-clause-same t c =
    left c.args.scope.now c.hide-outer.new.self c.statements.new.scope c.leave.new.self c.hide-outer.result c.hide-outer.ensures.list c.hide-outer.ensures.inside.1
    c.in_ok-statements.ensures.frame
    c.leave.ensures.list c.leave.ensures.frame.0 c.leave.ensures.frame.1 c.hide-outer.ensures.frame.0 c.hide-outer.ensures.frame.1
