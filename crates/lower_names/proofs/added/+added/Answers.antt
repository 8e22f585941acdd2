use Rattle.std.proofs.Common.{◌∙◌, sym, ap, refl, subst, map}
use Rattle.forec_tree.specs.declared.tree.StmtKind as kind
use Rattle.forec_tree.specs.Plain.{statement, statements, branches, branch_with, term, terms, optional_term, perhaps_of, declared, written_target}
use Rattle.forec_tree.specs.Terms as tree
use Rattle.forec_tree.specs.Terms.{no_branches}
use Rattle.forec_tree.proofs.Rows.{of_kind, of_group, of_if, of_for, of_par, of_abort, branch-group}
use Rattle.lower_names.specs.Additions.{no_additions, StatementAdds, PerhapsAdds, BranchesAdd}
use Rattle.lower_names.proofs.AdditionLemmas.{nothing_adds, pause_adds, declare_adds, assign_adds, return_adds, kind_adds, group_adds, abort_adds, if_adds, for_adds, while_adds, call_adds, called_adds, block_adds, perhaps_none, par_none, par_adds, list_starts, list_goes, list_ends, branches_start, branches_go, branches_end, by_table}
use Rattle.lower_names.proofs.added.+added.Goals as goal

pub of_statement-returns-in-Nothing : goal.of_statement-returns-in-Nothing
of_statement-returns-in-Nothing t c = λ text all. kind_adds text no_additions c.nothing.result _ _ (of_kind (λ s. s) c.args.s.now kind.Nothing c.in-Nothing.is) c.nothing.ensures (nothing_adds text c.args.s.now.place)

pub of_statement-returns-in-Pause : goal.of_statement-returns-in-Pause
of_statement-returns-in-Pause t c = λ text all. kind_adds text no_additions c.nothing-in-Pause.result _ _ (of_kind (λ s. s) c.args.s.now kind.Pause c.in-Pause.is) c.nothing-in-Pause.ensures (pause_adds text c.args.s.now.place)

pub of_statement-returns-in-Declare : goal.of_statement-returns-in-Declare
of_statement-returns-in-Declare t c =
    λ text all.
    kind_adds text no_additions c.nothing-in-Declare.result _ _ (of_kind (λ s. s) c.args.s.now (kind.Declare c.in-Declare.locals) c.in-Declare.is) c.nothing-in-Declare.ensures
    (declare_adds text c.args.s.now.place (map declared c.in-Declare.locals))

pub of_statement-returns-in-Assign : goal.of_statement-returns-in-Assign
of_statement-returns-in-Assign t c =
    λ text all.
    kind_adds text no_additions c.nothing-in-Assign.result _ _ (of_kind (λ s. s) c.args.s.now (kind.Assign c.in-Assign.target c.in-Assign.op c.in-Assign.value) c.in-Assign.is) c.nothing-in-Assign.ensures
    (assign_adds text c.args.s.now.place (written_target c.in-Assign.target) c.in-Assign.op (term c.in-Assign.value))

pub of_statement-returns-in-Return : goal.of_statement-returns-in-Return
of_statement-returns-in-Return t c =
    λ text all.
    kind_adds text no_additions c.nothing-in-Return.result _ _ (of_kind (λ s. s) c.args.s.now (kind.Return c.in-Return.value) c.in-Return.is) c.nothing-in-Return.ensures (return_adds text c.args.s.now.place (term c.in-Return.value))

pub of_statement-returns-in_ok-added-in-Group : goal.of_statement-returns-in_ok-added-in-Group
of_statement-returns-in_ok-added-in-Group t c =
    λ text all.
    subst (λ s. StatementAdds text s c.in_ok-added-in-Group.added) (of_group (λ s. s) c.args.s.now c.in-Group.body c.as_slice.result.now c.in-Group.is c.as_slice.ensures)
    (group_adds text c.args.s.now.place (statements c.as_slice.result.now) c.in_ok-added-in-Group.added (c.in_ok-added-in-Group.ensures text all))

pub of_statement-returns-in_ok-added-in-Abort : goal.of_statement-returns-in_ok-added-in-Abort
of_statement-returns-in_ok-added-in-Abort t c =
    λ text all.
    subst (λ s. StatementAdds text s c.in_ok-added-in-Abort.added)
    (of_abort (λ s. s) c.args.s.now c.in-Abort.weak c.in-Abort.immediate c.in-Abort.test c.in-Abort.body c.as_slice-in-Abort.result.now c.in-Abort.is c.as_slice-in-Abort.ensures)
    (abort_adds text c.args.s.now.place c.in-Abort.weak c.in-Abort.immediate (term c.in-Abort.test) (statements c.as_slice-in-Abort.result.now) c.in_ok-added-in-Abort.added (c.in_ok-added-in-Abort.ensures text all))

pub of_statement-returns-in_ok-added-in-Call : goal.of_statement-returns-in_ok-added-in-Call
of_statement-returns-in_ok-added-in-Call t c =
    λ text all.
    subst (λ s. StatementAdds text s c.in_ok-added-in-Call.added) (of_kind (λ s. s) c.args.s.now (kind.Call c.in-Call.name c.in-Call.args) c.in-Call.is)
    (call_adds text c.args.s.now.place c.in-Call.name (terms c.in-Call.args) c.in_ok-added-in-Call.added (by_table text c.args.table.now c.in-Call.name.id c.in_ok-added-in-Call.added all c.in_ok-added-in-Call.ensures))

pub of_statement-returns-in_ok-added-in-If : goal.of_statement-returns-in_ok-added-in-If
of_statement-returns-in_ok-added-in-If t c =
    λ text all.
    let added = c.in_ok-added-in-If.added in
    let at = c.args.s.now.place in
    subst (λ s. StatementAdds text s added)
    (ap (λ y. tree.If at (term c.in-If.test) (statement y) (perhaps_of c.in-If.no)) c.deref.ensures ∙ of_if (λ s. s) c.args.s.now c.in-If.test c.in-If.yes c.in-If.no c.in-If.is)
    (if_adds text at (term c.in-If.test) (statement c.deref.result.now) (perhaps_of c.in-If.no) c.in_ok-yes-in-If.yes c.in_ok-no-in-If.no added (c.in_ok-yes-in-If.ensures text all) (c.in_ok-no-in-If.ensures text all) c.in_ok-added-in-If.ensures)

pub of_statement-returns-in_ok-added-in-While : goal.of_statement-returns-in_ok-added-in-While
of_statement-returns-in_ok-added-in-While t c =
    λ text all.
    let added = c.in_ok-added-in-While.added in
    let at = c.args.s.now.place in
    subst (λ s. StatementAdds text s added)
    (ap (λ y. tree.While at (term c.in-While.test) c.in-While.bound (statement y)) c.deref-in-While.ensures ∙ of_kind (λ s. s) c.args.s.now (kind.While c.in-While.test c.in-While.bound c.in-While.body) c.in-While.is)
    (while_adds text at (term c.in-While.test) c.in-While.bound (statement c.deref-in-While.result.now) added (c.in_ok-added-in-While.ensures text all))

pub of_statement-returns-in_ok-added-in-For : goal.of_statement-returns-in_ok-added-in-For
of_statement-returns-in_ok-added-in-For t c =
    λ text all.
    let added = c.in_ok-added-in-For.added in
    let at = c.args.s.now.place in
    let start = perhaps_of c.in-For.start in
    let step = perhaps_of c.in-For.step in
    let test = optional_term c.in-For.test in
    subst (λ s. StatementAdds text s added)
    (ap (λ y. tree.For at start test step c.in-For.bound (statement y)) c.deref-in-For.ensures ∙ of_for (λ s. s) c.args.s.now c.in-For.start c.in-For.step c.in-For.test c.in-For.bound c.in-For.body c.in-For.is)
    (for_adds text at start test step c.in-For.bound (statement c.deref-in-For.result.now) c.in_ok-start-in-For.start c.in_ok-step-in-For.step c.in_ok-body-in-For.body c.in_ok-turned-in-For.turned added (c.in_ok-start-in-For.ensures text all)
    (c.in_ok-step-in-For.ensures text all) (c.in_ok-body-in-For.ensures text all) c.in_ok-turned-in-For.ensures c.in_ok-added-in-For.ensures)

pub of_statement-returns-in_ok-added-in-Par : goal.of_statement-returns-in_ok-added-in-Par
of_statement-returns-in_ok-added-in-Par t c =
    λ text all.
    subst (λ s. StatementAdds text s c.in_ok-added-in-Par.added) (of_par (λ s. s) c.args.s.now c.in-Par.branches c.as_slice-in-Par.result.now c.in-Par.is c.as_slice-in-Par.ensures)
    (c.in_ok-added-in-Par.ensures text all c.args.s.now.place)

pub of_optional-returns-in-None : goal.of_optional-returns-in-None
of_optional-returns-in-None t c =
    λ text all. subst (λ o. PerhapsAdds text (perhaps_of o) c.nothing.result) (sym c.in-None.is) (subst (PerhapsAdds text tree.absent) (sym c.nothing.ensures) (perhaps_none text))

pub of_branch-returns-in_ok-added-in-Call : goal.of_branch-returns-in_ok-added-in-Call
of_branch-returns-in_ok-added-in-Call t c =
    λ text all.
    subst (λ b. BranchesAdd text (branch_with b no_branches) c.in_ok-added-in-Call.added) (sym c.in-Call.is)
    (called_adds text c.in-Call.name (terms c.in-Call.args) _ c.in_ok-below-in-Call.below c.in_ok-added-in-Call.added refl refl
    (by_table text c.args.table.now c.in-Call.name.id c.in_ok-below-in-Call.below all c.in_ok-below-in-Call.ensures) c.in_ok-added-in-Call.ensures)

pub of_branch-returns-in_ok-added-in-Group : goal.of_branch-returns-in_ok-added-in-Group
of_branch-returns-in_ok-added-in-Group t c =
    λ text all.
    subst (λ b. BranchesAdd text b c.in_ok-added-in-Group.added)
    (ap (λ l. tree.by_group c.in-Group.place (statements l) no_branches) c.as_slice.ensures ∙ (sym (branch-group c.in-Group.place c.in-Group.body no_branches) ∙ ap (λ b. branch_with b no_branches) (sym c.in-Group.is)))
    (block_adds text c.in-Group.place (statements c.as_slice.result.now) _ c.in_ok-below-in-Group.below c.in_ok-added-in-Group.added refl refl (c.in_ok-below-in-Group.ensures text all) c.in_ok-added-in-Group.ensures)

pub of_par-returns-then-is_empty : goal.of_par-returns-then-is_empty
of_par-returns-then-is_empty t c =
    λ text all at. kind_adds text no_additions c.nothing.result (tree.Par at (branches c.args.list.now)) (tree.Par at (branches c.args.list.now)) refl c.nothing.ensures (par_none text at c.args.list.now (sym c.is_empty.ensures ∙ c.if-is_empty.true))

pub of_par-returns : goal.of_par-returns
of_par-returns t c =
    λ text all at.
    par_adds text at c.args.list.now _ c.in_ok-below.below c.in_ok-added.added (sym c.is_empty.ensures ∙ c.if-is_empty.false) refl refl (c.in_ok-below.ensures text all) c.in_ok-added.ensures

pub of_list-loop-s-init : goal.of_list-loop-s-init
of_list-loop-s-init t c = λ text all. list_starts text (statements c.args.list.now) c.nothing-total.result c.nothing-total.ensures

pub of_list-loop-s-preserved : goal.of_list-loop-s-preserved
of_list-loop-s-preserved t c =
    λ text all.
    list_goes text c.args.list.now c.loop-s.s-index c.s-item.result (statements c.args.list.now) c.loop-s.total c.in_ok-more.more c.in_ok-total.total c.loop-s-test.true (sym c.s-item.is) (c.in_ok-more.ensures text all) c.in_ok-total.ensures
    (c.loop-s.invariant text all)

pub of_list-returns : goal.of_list-returns
of_list-returns t c = λ text all. list_ends text c.args.list.now c.loop-s.s-index (statements c.args.list.now) c.loop-s.total c.loop-s-test.false (c.loop-s.invariant text all)

pub of_branches-loop-one-init : goal.of_branches-loop-one-init
of_branches-loop-one-init t c = λ text all. branches_start text (branches c.args.list.now) c.nothing-total.result c.nothing-total.ensures

pub of_branches-loop-one-preserved : goal.of_branches-loop-one-preserved
of_branches-loop-one-preserved t c =
    λ text all.
    branches_go text c.args.list.now c.loop-one.one-index c.one-item.result (branches c.args.list.now) c.loop-one.total c.in_ok-more.more c.in_ok-total.total c.loop-one-test.true (sym c.one-item.is) (c.in_ok-more.ensures text all)
    c.in_ok-total.ensures (c.loop-one.invariant text all)

pub of_branches-returns : goal.of_branches-returns
of_branches-returns t c = λ text all. branches_end text c.args.list.now c.loop-one.one-index (branches c.args.list.now) c.loop-one.total c.loop-one-test.false (c.loop-one.invariant text all)
