use Rattle.std.proofs.Common.{◌≡◌, ◌∙◌, ◌-◌, ◌^◌, ℕ, min, max, sym, ap, List, arith}
use Rattle.forec_tree.specs.Plain.{terms}
use Rattle.forec_tree.specs.Terms.{Statement, count_terms}
use Rattle.forec_tree.proofs.Rows.{of_group, of_abort, of_par}
use Rattle.loop_check.proofs.Branches.{call_first, group_first}
use Rattle.text_sizes.specs.Spans.{most, most_branches}
use Rattle.text_sizes.specs.Measures.{call_by, block_by, below_by}
use Rattle.text_sizes.specs.declared.span.Span.{Span}
use Rattle.text_sizes.specs.declared.widths.Measure.{Measure}
use Rattle.text_sizes.proofs.widths.+most.Goals as goal
use Rattle.text_sizes.proofs.widths.+most.Goals.{branches_most-in-Call, branches_most-in-Group}

abbrev capped_most : Measure → List Span → Statement → ℕ
capped_most m table s = min (most (call_by m table) (block_by m table) (below_by m table) s) (2 ^ 64 - 1)

pub most-returns-in-Group : goal.most-returns-in-Group
most-returns-in-Group t c =
    c.all_most.ensures ∙ of_group (capped_most c.args.measure c.args.table.now) c.args.s.now c.in-Group.body c.as_slice.result.now c.in-Group.is c.as_slice.ensures

pub most-returns-in-Par : goal.most-returns-in-Par
most-returns-in-Par t c =
    c.branches_most.ensures
    ∙ of_par (capped_most c.args.measure c.args.table.now) c.args.s.now c.in-Par.branches c.as_slice-in-Par.result.now c.in-Par.is c.as_slice-in-Par.ensures

pub most-returns-in-Abort : goal.most-returns-in-Abort
most-returns-in-Abort t c =
    c.all_most-in-Abort.ensures
    ∙ of_abort (capped_most c.args.measure c.args.table.now) c.args.s.now c.in-Abort.weak c.in-Abort.immediate c.in-Abort.test c.in-Abort.body c.as_slice-in-Abort.result.now c.in-Abort.is c.as_slice-in-Abort.ensures

-- one more branch, of two parts
two_parts : (a b x y : ℕ) → a ≡ min x (2 ^ 64 - 1) → b ≡ min y (2 ^ 64 - 1) → min (max a b) (2 ^ 64 - 1) ≡ min (max x y) (2 ^ 64 - 1)
two_parts a b x y f g = omega arith

longer : (so_far one other rest : ℕ) → min one (2 ^ 64 - 1) ≡ min other (2 ^ 64 - 1) → min (max (max so_far one) rest) (2 ^ 64 - 1) ≡ min (max so_far (max other rest)) (2 ^ 64 - 1)
longer so_far one other rest f = omega arith

one_more : (so_far inside next a b x y rest all : ℕ) → inside ≡ max a b → a ≡ min x (2 ^ 64 - 1) → b ≡ min y (2 ^ 64 - 1) → next ≡ max so_far inside →
    all ≡ max (max x y) rest → min (max next rest) (2 ^ 64 - 1) ≡ min (max so_far all) (2 ^ 64 - 1)
one_more so_far inside next a b x y rest all e f g h k =
    ap (λ n. min (max n rest) (2 ^ 64 - 1)) h
    ∙ (longer so_far inside (max x y) rest (ap (λ n. min n (2 ^ 64 - 1)) e ∙ two_parts a b x y f g) ∙ ap (λ n. min (max so_far n) (2 ^ 64 - 1)) (sym k))

pub branches_most-loop-branch-preserved : goal.branches_most-loop-branch-preserved
branches_most-loop-branch-preserved t c =
    let m = c.args.measure in
    let table = c.args.table.now in
    let F = most_branches (call_by m table) (block_by m table) (below_by m table) in
    elim c.match-branch.branch [
      | branches_most-in-Call w ↦
          let e = call_first F c.args.list.now c.loop-branch.branch-index c.branch-item.result w.in-Call.name w.in-Call.args c.loop-branch-test.true (sym c.branch-item.is) w.in-Call.is in
          let own = w.by_name-own.ensures ∙ ap (λ l. min (call_by m table w.in-Call.name.id (count_terms (terms l))) (2 ^ 64 - 1)) w.as_slice.ensures in
          record {
            small = let k = c.max-greatest.type_inv in omega (arith, k);
            told = one_more c.loop-branch.greatest c.match-branch.inside c.max-greatest.result w.by_name-own.result w.below.result _ _ _ _ (w.inside-is ∙ w.max-inside.ensures) own w.below.ensures c.max-greatest.ensures e
                ∙ c.loop-branch.invariant.told;
          }
      | branches_most-in-Group w ↦
          let e = group_first F c.args.list.now c.loop-branch.branch-index c.branch-item.result w.in-Group.place w.in-Group.body w.as_slice-body.result.now c.loop-branch-test.true (sym c.branch-item.is) w.in-Group.is
          w.as_slice-body.ensures in
          record {
            small = let k = c.max-greatest.type_inv in omega (arith, k);
            told = one_more c.loop-branch.greatest c.match-branch.inside c.max-greatest.result w.by_body-own.result w.all_most.result _ _ _ _ (w.inside-is ∙ w.max-inside-in-Group.ensures) w.by_body-own.ensures w.all_most.ensures
                c.max-greatest.ensures e
                ∙ c.loop-branch.invariant.told;
          }
    ]
