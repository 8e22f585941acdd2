use Rattle.std.proofs.Common.{ℕ, ◌≡◌, ◌≤◌, ◌∙◌, ap, subst, true, get_or}
use Rattle.forec_tree.specs.Faults.{is_in}
use Rattle.loop_check.specs.Graph.{callees, rank_at}
use Rattle.loop_check.proofs.Ranked.{next_in}
use Rattle.loop_check.proofs.ranks.never_up.Goals as goal

pub loop-f-preserved : goal.loop-f-preserved
loop-f-preserved c =
    let calls = callees c.args.calls.now in
    let ranks = c.args.ranks.now in
    let f = get_or c.args.functions.now c.loop-f.f-index 0 in
    let P : ℕ → Type 0 = λ k. (g : ℕ) → is_in g (calls k) ≡ true → rank_at ranks g ≤ rank_at ranks k in
    λ k g i e. next_in P c.args.functions.now c.loop-f.f-index c.loop-f-test.true (λ x y z w. c.loop-f.invariant x z y w)
    (λ x w. subst (λ n. rank_at ranks x ≤ n) c.rank.ensures (c.all_within.ensures c.if-not-all_within.false x (ap (is_in x) c.called.ensures ∙ w))) k i g e
