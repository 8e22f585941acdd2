use Rattle.std.proofs.Common.{ℕ, ◌≡◌, ◌<◌, ◌∙◌, sym, ap, subst, true, false, get_or}
use Rattle.forec_tree.specs.Faults.{is_in, Leads}
use Rattle.loop_check.specs.Graph.{callees, rank_at}
use Rattle.loop_check.proofs.Ranked.{never_back, marked_free}
use Rattle.loop_check.proofs.ranks.falling.Goals as goal
use Rattle.loop_check.proofs.ranks.falling.Goals.{then-all_below+in_ok-mark, else-all_below}

pub loop-f-preserved : goal.loop-f-preserved
loop-f-preserved c =
    let calls = callees c.args.calls.now in
    let ranks = c.args.ranks.now in
    let f = get_or c.args.functions.now c.loop-f.f-index 0 in
    let P : ℕ → Type 0 = λ g. Leads calls g g → ⊥ in
    elim c.if-all_below.branch [
      | then-all_below+in_ok-mark w ↦
          let low : (g : ℕ) → is_in g (calls f) ≡ true → rank_at ranks g < rank_at ranks f =
          λ g i. subst (λ n. rank_at ranks g < n) c.rank.ensures (c.all_below.ensures w.if-all_below.true g (ap (is_in g) c.called.ensures ∙ i)) in
          marked_free P f c.loop-f.marks.items c.if-all_below.marks.items (never_back calls ranks c.requires f low)
          (λ g. ap (λ v. get_or v.items g false) w.marks-is ∙ w.in_ok-mark.ensures.set g) c.loop-f.invariant
      | else-all_below w ↦ λ g m. c.loop-f.invariant g (ap (λ v. get_or v.items g false) (sym w.marks-is) ∙ m)
    ]
