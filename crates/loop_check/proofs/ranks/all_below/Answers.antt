use Rattle.std.proofs.Common.{ℕ, ◌<◌, get_or, arith}
use Rattle.loop_check.specs.Graph.{rank_at}
use Rattle.loop_check.proofs.Ranked.{next_in}
use Rattle.loop_check.proofs.ranks.all_below.Goals as goal

pub loop-g-preserved : goal.loop-g-preserved
loop-g-preserved c =
    let P : ℕ → Type 0 = λ k. rank_at c.args.ranks.now k < c.args.limit in
    next_in P c.args.list.now c.loop-g.g-index c.loop-g-test.true c.loop-g.invariant
    (let e = c.rank.ensures in let h = c.if-limit-rank.false in let g : rank_at c.args.ranks.now (get_or c.args.list.now c.loop-g.g-index 0) < c.args.limit = omega (arith, e, h) in g)
