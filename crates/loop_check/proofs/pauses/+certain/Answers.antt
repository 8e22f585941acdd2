use Rattle.std.proofs.Common.{◌≡◌, ◌∙◌, Bool, false, sym, refl, ◌&&◌, not}
use Rattle.forec_tree.specs.Pauses as pauses
use Rattle.forec_tree.proofs.Rows.{of_group, of_abort, of_par}
use Rattle.loop_check.specs.Views.{indexed_text}
use Rattle.loop_check.specs.Known.{known}
use Rattle.loop_check.proofs.Branches.{call_first, group_first}
use Rattle.loop_check.proofs.pauses.+certain.Goals as goal
use Rattle.loop_check.proofs.pauses.+certain.Goals.{branch_certain-in-Call+else-is_known, branch_certain-in-Group+else-any_certain}

pub is_certain-returns-in-Group : goal.is_certain-returns-in-Group
is_certain-returns-in-Group t c =
    c.any_certain.ensures
    ∙ of_group (pauses.certain_by (indexed_text c.args.index.now) (known c.args.called.now)) c.args.s.now c.in-Group.body c.as_slice.result.now c.in-Group.is c.as_slice.ensures

pub is_certain-returns-in-Par : goal.is_certain-returns-in-Par
is_certain-returns-in-Par t c =
    c.branch_certain.ensures
    ∙ of_par (pauses.certain_by (indexed_text c.args.index.now) (known c.args.called.now)) c.args.s.now c.in-Par.branches c.as_slice-in-Par.result.now c.in-Par.is c.as_slice-in-Par.ensures

gate : (b x : Bool) → b ≡ false → x ≡ (not b && x)
gate b x h = rw h refl

pub is_certain-returns-else-immediate : goal.is_certain-returns-else-immediate
is_certain-returns-else-immediate t c =
    let e = of_abort (pauses.certain_by (indexed_text c.args.index.now) (known c.args.called.now)) c.args.s.now c.in-Abort.weak c.in-Abort.immediate c.in-Abort.test c.in-Abort.body
    c.as_slice-in-Abort.result.now c.in-Abort.is c.as_slice-in-Abort.ensures in
    c.any_certain-in-Abort.ensures
    ∙ gate c.in-Abort.immediate _ c.if-immediate.false ∙ e

pub branch_certain-returns-then-any_certain : goal.branch_certain-returns-then-any_certain
branch_certain-returns-then-any_certain t c =
    let e = group_first (pauses.branch_certain (indexed_text c.args.index.now) (known c.args.called.now)) c.args.list.now c.loop-branch.branch-index c.branch-item.result
    c.in-Group.place c.in-Group.body c.as_slice.result.now c.loop-branch-test.true (sym c.branch-item.is) c.in-Group.is c.as_slice.ensures in
    let d = sym c.any_certain.ensures ∙ c.if-any_certain.true in
    sym (sym c.loop-branch.invariant ∙ e ∙ rw d refl)

pub branch_certain-loop-branch-preserved : goal.branch_certain-loop-branch-preserved
branch_certain-loop-branch-preserved t c =
    elim c.match-branch.branch [
      | branch_certain-in-Call+else-is_known w ↦
          let e = call_first (pauses.branch_certain (indexed_text c.args.index.now) (known c.args.called.now)) c.args.list.now c.loop-branch.branch-index c.branch-item.result
          w.in-Call.name w.in-Call.args c.loop-branch-test.true (sym c.branch-item.is) w.in-Call.is in
          let d = sym w.is_known.ensures ∙ w.if-is_known.false in
          sym (e ∙ rw d refl) ∙ c.loop-branch.invariant
      | branch_certain-in-Group+else-any_certain w ↦
          let e = group_first (pauses.branch_certain (indexed_text c.args.index.now) (known c.args.called.now)) c.args.list.now c.loop-branch.branch-index c.branch-item.result
          w.in-Group.place w.in-Group.body w.as_slice.result.now c.loop-branch-test.true (sym c.branch-item.is) w.in-Group.is w.as_slice.ensures in
          let d = sym w.any_certain.ensures ∙ w.if-any_certain.false in
          sym (e ∙ rw d refl) ∙ c.loop-branch.invariant
    ]
