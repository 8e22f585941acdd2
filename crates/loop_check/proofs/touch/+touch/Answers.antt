use Rattle.std.proofs.Common.{◌∙◌, sym, refl}
use Rattle.forec_tree.specs.Turns as form
use Rattle.forec_tree.proofs.Rows.{of_group, of_abort, of_par}
use Rattle.loop_check.proofs.Branches.{call_first, group_first}
use Rattle.loop_check.proofs.touch.+touch.Goals as goal
use Rattle.loop_check.proofs.touch.+touch.Goals.{branches_touch-in-Call, branches_touch-in-Group+else-any_touches}

pub touches-returns-in-Group : goal.touches-returns-in-Group
touches-returns-in-Group t c =
    c.any_touches.ensures ∙ of_group (form.touches c.args.id) c.args.s.now c.in-Group.body c.as_slice.result.now c.in-Group.is c.as_slice.ensures

pub touches-returns-in-Par : goal.touches-returns-in-Par
touches-returns-in-Par t c =
    c.branches_touch.ensures ∙ of_par (form.touches c.args.id) c.args.s.now c.in-Par.branches c.as_slice-in-Par.result.now c.in-Par.is c.as_slice-in-Par.ensures

pub touches-returns-in-Abort : goal.touches-returns-in-Abort
touches-returns-in-Abort t c =
    c.any_touches-in-Abort.ensures
    ∙ of_abort (form.touches c.args.id) c.args.s.now c.in-Abort.weak c.in-Abort.immediate c.in-Abort.test c.in-Abort.body c.as_slice-in-Abort.result.now
    c.in-Abort.is c.as_slice-in-Abort.ensures

pub branches_touch-returns-then-any_touches : goal.branches_touch-returns-then-any_touches
branches_touch-returns-then-any_touches t c =
    let e = group_first (form.branches_touch c.args.id) c.args.list.now c.loop-branch.branch-index c.branch-item.result c.in-Group.place c.in-Group.body
    c.as_slice.result.now c.loop-branch-test.true (sym c.branch-item.is) c.in-Group.is c.as_slice.ensures in
    let d = sym c.any_touches.ensures ∙ c.if-any_touches.true in
    sym (sym c.loop-branch.invariant ∙ e ∙ rw d refl)

pub branches_touch-loop-branch-preserved : goal.branches_touch-loop-branch-preserved
branches_touch-loop-branch-preserved t c =
    elim c.match-branch.branch [
      | branches_touch-in-Call w ↦
          sym (call_first (form.branches_touch c.args.id) c.args.list.now c.loop-branch.branch-index c.branch-item.result w.in-Call.name w.in-Call.args
          c.loop-branch-test.true (sym c.branch-item.is) w.in-Call.is) ∙ c.loop-branch.invariant
      | branches_touch-in-Group+else-any_touches w ↦
          let e = group_first (form.branches_touch c.args.id) c.args.list.now c.loop-branch.branch-index c.branch-item.result w.in-Group.place w.in-Group.body
          w.as_slice.result.now c.loop-branch-test.true (sym c.branch-item.is) w.in-Group.is w.as_slice.ensures in
          let d = sym w.any_touches.ensures ∙ w.if-any_touches.false in
          sym (e ∙ rw d refl) ∙ c.loop-branch.invariant
    ]
