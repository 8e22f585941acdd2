use Rattle.std.proofs.Common.{◌≡◌, ◌∙◌, ◌+◌, ◌-◌, ◌^◌, ℕ, min, sym, ap, arith}
use Rattle.forec_tree.proofs.Rows.{of_group, of_abort, of_par}
use Rattle.loop_check.proofs.Branches.{call_first, group_first}
use Rattle.text_sizes.specs.TermCounts.{under, under_branches}
use Rattle.text_sizes.specs.Extents.{own_at, under_at}
use Rattle.text_sizes.proofs.Nearby.{again}
use Rattle.text_sizes.proofs.extents.+under.Goals as goal
use Rattle.text_sizes.proofs.extents.+under.Goals.{branches_under-in-Call, branches_under-in-Group}

pub under-returns-in-Group : goal.under-returns-in-Group
under-returns-in-Group t c =
    c.all_under.ensures
    ∙ of_group (λ s. min (under (own_at c.args.table.now) (under_at c.args.table.now) s) (2 ^ 64 - 1)) c.args.s.now c.in-Group.body c.as_slice.result.now c.in-Group.is c.as_slice.ensures

pub under-returns-in-Par : goal.under-returns-in-Par
under-returns-in-Par t c =
    c.branches_under.ensures
    ∙ of_par (λ s. min (under (own_at c.args.table.now) (under_at c.args.table.now) s) (2 ^ 64 - 1)) c.args.s.now c.in-Par.branches c.as_slice-in-Par.result.now c.in-Par.is c.as_slice-in-Par.ensures

pub under-returns-in-Abort : goal.under-returns-in-Abort
under-returns-in-Abort t c =
    c.all_under-in-Abort.ensures
    ∙ of_abort (λ s. min (under (own_at c.args.table.now) (under_at c.args.table.now) s) (2 ^ 64 - 1)) c.args.s.now c.in-Abort.weak c.in-Abort.immediate c.in-Abort.test c.in-Abort.body c.as_slice-in-Abort.result.now c.in-Abort.is
    c.as_slice-in-Abort.ensures

-- one more branch, of two parts
one_more : (total inside next a b x y rest all : ℕ) → inside ≡ min (a + b) (2 ^ 64 - 1) → min a (2 ^ 64 - 1) ≡ min x (2 ^ 64 - 1) → min b (2 ^ 64 - 1) ≡ min y (2 ^ 64 - 1) → next ≡ min (total + inside) (2 ^ 64 - 1) →
    all ≡ (x + y) + rest → min (next + rest) (2 ^ 64 - 1) ≡ min (total + all) (2 ^ 64 - 1)
one_more total inside next a b x y rest all e d f g h = omega arith

pub branches_under-loop-branch-preserved : goal.branches_under-loop-branch-preserved
branches_under-loop-branch-preserved t c =
    elim c.match-branch.branch [
      | branches_under-in-Call w ↦
          let F = under_branches (own_at c.args.table.now) (under_at c.args.table.now) in
          let e = call_first F c.args.list.now c.loop-branch.branch-index c.branch-item.result w.in-Call.name w.in-Call.args c.loop-branch-test.true (sym c.branch-item.is) w.in-Call.is in
          record {
            small = let k = c.add-total.ensures in omega (arith, k);
            told = one_more c.loop-branch.total c.match-branch.inside c.add-total.result w.known_of-known.result.own w.known_of-known.result.under _ _ _ _ (w.inside-is ∙ w.add-inside.ensures)
                (ap (λ n. min n (2 ^ 64 - 1)) w.known_of-known.ensures.own) (ap (λ n. min n (2 ^ 64 - 1)) w.known_of-known.ensures.under) c.add-total.ensures e
                ∙ c.loop-branch.invariant.told;
          }
      | branches_under-in-Group w ↦
          let F = under_branches (own_at c.args.table.now) (under_at c.args.table.now) in
          let e = group_first F c.args.list.now c.loop-branch.branch-index c.branch-item.result w.in-Group.place w.in-Group.body w.as_slice-body.result.now c.loop-branch-test.true (sym c.branch-item.is) w.in-Group.is
          w.as_slice-body.ensures in
          record {
            small = let k = c.add-total.ensures in omega (arith, k);
            told = one_more c.loop-branch.total c.match-branch.inside c.add-total.result w.block.result w.all_under.result _ _ _ _ (w.inside-is ∙ w.add-inside-in-Group.ensures) (again w.block.result _ w.block.ensures)
                (again w.all_under.result _ w.all_under.ensures) c.add-total.ensures e
                ∙ c.loop-branch.invariant.told;
          }
    ]
