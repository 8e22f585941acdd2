use Rattle.std.proofs.Common.{◌≡◌, ◌∙◌, sym, ap, subst, List, ℕ, [], ◌∷◌, ◌++◌, append_assoc}
use Rattle.std.specs.Prelude.{OnOk}
use Rattle.forec_tree.specs.Pauses as pauses
use Rattle.forec_tree.proofs.Rows.{of_group, of_abort, of_par}
use Rattle.loop_check.proofs.Branches.{call_first, group_first}
use Rattle.loop_check.proofs.starts.+start.Goals as goal
use Rattle.loop_check.proofs.starts.+start.Goals.{branches_started-in-Call+in_ok-push-in-Call, branches_started-in-Group+in_ok-all_started-in-Group}

pub started-returns-in-Group : goal.started-returns-in-Group
started-returns-in-Group t c =
    let e = of_group (λ s. c.args.list.now.items ++ pauses.started_names s) c.args.s.now c.in-Group.body c.as_slice.result.now c.in-Group.is c.as_slice.ensures in
    subst (λ x. OnOk c.all_started.result (c.all_started.new.list.items ≡ x)) e c.all_started.ensures

pub started-returns-in-Par : goal.started-returns-in-Par
started-returns-in-Par t c =
    let e = of_par (λ s. c.args.list.now.items ++ pauses.started_names s) c.args.s.now c.in-Par.branches c.as_slice-in-Par.result.now c.in-Par.is c.as_slice-in-Par.ensures in
    subst (λ x. OnOk c.branches_started.result (c.branches_started.new.list.items ≡ x)) e c.branches_started.ensures

pub started-returns-in-Abort : goal.started-returns-in-Abort
started-returns-in-Abort t c =
    let e = of_abort (λ s. c.args.list.now.items ++ pauses.started_names s) c.args.s.now c.in-Abort.weak c.in-Abort.immediate c.in-Abort.test c.in-Abort.body
    c.as_slice-in-Abort.result.now c.in-Abort.is c.as_slice-in-Abort.ensures in
    subst (λ x. OnOk c.all_started-in-Abort.result (c.all_started-in-Abort.new.list.items ≡ x)) e c.all_started-in-Abort.ensures

-- what one more part adds
joined : (new old part rest whole all : List ℕ) → new ≡ old ++ part → all ≡ part ++ rest → old ++ all ≡ whole → new ++ rest ≡ whole
joined new old part rest whole all n a h = ap (λ x. x ++ rest) n ∙ append_assoc old part rest ∙ ap (λ x. old ++ x) (sym a) ∙ h

pub branches_started-loop-branch-preserved : goal.branches_started-loop-branch-preserved
branches_started-loop-branch-preserved t c =
    elim c.match-branch.branch [
      | branches_started-in-Call+in_ok-push-in-Call w ↦
          let e = call_first pauses.branches_started c.args.branches.now c.loop-branch.branch-index c.branch-item.result
          w.in-Call.name w.in-Call.args c.loop-branch-test.true (sym c.branch-item.is) w.in-Call.is in
          joined c.match-branch.list.items c.loop-branch.list.items (w.in-Call.name.id ∷ []) _ _ _ (ap (λ v. v.items) w.list-is ∙ w.in_ok-push-in-Call.ensures.items) e c.loop-branch.invariant
      | branches_started-in-Group+in_ok-all_started-in-Group w ↦
          let e = group_first pauses.branches_started c.args.branches.now c.loop-branch.branch-index c.branch-item.result
          w.in-Group.place w.in-Group.body w.as_slice.result.now c.loop-branch-test.true (sym c.branch-item.is) w.in-Group.is w.as_slice.ensures in
          joined c.match-branch.list.items c.loop-branch.list.items _ _ _ _ (ap (λ v. v.items) w.list-is ∙ w.in_ok-all_started-in-Group.ensures) e c.loop-branch.invariant
    ]
