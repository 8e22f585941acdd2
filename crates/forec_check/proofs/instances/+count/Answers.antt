use Rattle.std.proofs.Common.{◌≡◌, ◌∙◌, ◌+◌, ◌-◌, ◌^◌, ℕ, suc, min, sym, ap, refl, ◌∷◌, drop, add-one, arith}
use Rattle.std.proofs.Math.Seq.{drop-cons}
use Rattle.forec_tree.specs.Plain as plain
use Rattle.forec_tree.specs.Threads as threads
use Rattle.forec_tree.proofs.Rows.{of_group, of_abort, of_par}
use Rattle.loop_check.proofs.Branches.{call_first, group_first}
use Rattle.forec_check.specs.Instances.{count_at}
use Rattle.forec_check.proofs.instances.+count.Goals as goal
use Rattle.forec_check.proofs.instances.+count.Goals.{count_branches-in-Call, count_branches-in-Group}

pub count_statement-returns-in-Group : goal.count_statement-returns-in-Group
count_statement-returns-in-Group t c =
    c.count_statements.ensures
    ∙ of_group (λ s. min (threads.below (count_at c.args.table.now) s) (2 ^ 64 - 1)) c.args.s.now c.in-Group.body c.as_slice.result.now c.in-Group.is c.as_slice.ensures

pub count_statement-returns-in-Par : goal.count_statement-returns-in-Par
count_statement-returns-in-Par t c =
    c.count_branches.ensures
    ∙ of_par (λ s. min (threads.below (count_at c.args.table.now) s) (2 ^ 64 - 1)) c.args.s.now c.in-Par.branches c.as_slice-in-Par.result.now c.in-Par.is c.as_slice-in-Par.ensures

pub count_statement-returns-in-Abort : goal.count_statement-returns-in-Abort
count_statement-returns-in-Abort t c =
    c.count_statements-in-Abort.ensures
    ∙ of_abort (λ s. min (threads.below (count_at c.args.table.now) s) (2 ^ 64 - 1)) c.args.s.now c.in-Abort.weak c.in-Abort.immediate c.in-Abort.test c.in-Abort.body
    c.as_slice-in-Abort.result.now c.in-Abort.is c.as_slice-in-Abort.ensures

-- one more statement
one_statement : (total next inside part rest all : ℕ) → next ≡ min (total + inside) (2 ^ 64 - 1) → inside ≡ min part (2 ^ 64 - 1) → all ≡ part + rest →
    min (next + rest) (2 ^ 64 - 1) ≡ min (total + all) (2 ^ 64 - 1)
one_statement total next inside part rest all a b e = omega arith

pub count_statements-loop-s-preserved : goal.count_statements-loop-s-preserved
count_statements-loop-s-preserved t c =
    let i = c.loop-s.s-index in
    let x = c.s-item.result in
    let k = c.sum-total.ensures in
    let d : drop i c.args.list.now ≡ x ∷ drop (i + 1) c.args.list.now = drop-cons c.args.list.now i x c.loop-s-test.true ∙ rw (sym c.s-item.is, add-one) refl in
    record {
      small = omega (arith, k);
      told = one_statement c.loop-s.total c.sum-total.result c.count_statement.result _ _ _ k c.count_statement.ensures
          (ap (λ l. threads.below_all (count_at c.args.table.now) (plain.statements l)) d) ∙ c.loop-s.invariant.told;
    }

-- one more branch
one_more : (total one next inside part rest all : ℕ) → one ≡ min (1 + inside) (2 ^ 64 - 1) → next ≡ min (total + one) (2 ^ 64 - 1) → min inside (2 ^ 64 - 1) ≡ min part (2 ^ 64 - 1) → all ≡ suc part + rest →
    min (next + rest) (2 ^ 64 - 1) ≡ min (total + all) (2 ^ 64 - 1)
one_more total one next inside part rest all a b d e = omega arith

pub count_branches-loop-branch-preserved : goal.count_branches-loop-branch-preserved
count_branches-loop-branch-preserved t c =
    elim c.match-branch.branch [
      | count_branches-in-Call w ↦
          let F = threads.below_branches (count_at c.args.table.now) in
          let e = call_first F c.args.list.now c.loop-branch.branch-index c.branch-item.result w.in-Call.name w.in-Call.args c.loop-branch-test.true (sym c.branch-item.is) w.in-Call.is in
          record {
            small = let k = c.sum-total.ensures in omega (arith, k);
            told = one_more c.loop-branch.total c.sum.result c.sum-total.result c.match-branch.inside _ _ _ c.sum.ensures c.sum-total.ensures
                (ap (λ n. min n (2 ^ 64 - 1)) (w.inside-is ∙ w.known_count-inside.ensures)) e ∙ c.loop-branch.invariant.told;
          }
      | count_branches-in-Group w ↦
          let F = threads.below_branches (count_at c.args.table.now) in
          let e = group_first F c.args.list.now c.loop-branch.branch-index c.branch-item.result w.in-Group.place w.in-Group.body w.as_slice.result.now c.loop-branch-test.true (sym c.branch-item.is)
          w.in-Group.is w.as_slice.ensures in
          record {
            small = let k = c.sum-total.ensures in omega (arith, k);
            told = one_more c.loop-branch.total c.sum.result c.sum-total.result c.match-branch.inside _ _ _ c.sum.ensures c.sum-total.ensures
                (again c.match-branch.inside _ (w.inside-is ∙ w.count_statements-inside.ensures)) e ∙ c.loop-branch.invariant.told;
          }
    ]
  where
    again : (a b : ℕ) → a ≡ min b (2 ^ 64 - 1) → min a (2 ^ 64 - 1) ≡ min b (2 ^ 64 - 1)
    again a b h = omega arith
