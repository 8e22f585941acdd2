use Rattle.std.proofs.Common.{◌<◌, ◌≤◌, length, refl, sym, ap, subst, arith}
use mathlib.Core.Bool.{true≢false}
use Rattle.exchange_replay.specs.Tracks.{SaysUsed}
use Rattle.exchange_replay.proofs.UsedLemmas.{item_at, used_more, used_all, not_used}
use Rattle.exchange_replay.proofs.walk.Walk.is_used.Goals as goal

pub returns-then-not-is_used_up : goal.returns-then-not-is_used_up
returns-then-not-is_used_up c k l pairs t told p =
    let lt : c.loop-branch.branch-index < length c.deref-branch-items.result.now = omega (arith, c.loop-branch-test.true, c.deref-branch-items.ensures.len) in
    let at = item_at c.args.self.now.branches.items c.deref-branch-items.result.now c.deref-branch-items.ensures.value c.loop-branch.branch-index c.branch-item.result lt c.branch-item.is in
    ((λ e. absurd (true≢false (sym e))), (λ all. absurd (not_used c.args.self.now.branches.items c.loop-branch.branch-index c.branch-item.result at c.is_used_up.result c.if-not-is_used_up.true c.is_used_up.ensures.none c.is_used_up.ensures.some k.shape l pairs t told p all)))

pub loop-branch-preserved : goal.loop-branch-preserved
loop-branch-preserved c =
    let lt : c.loop-branch.branch-index < length c.deref-branch-items.result.now = omega (arith, c.loop-branch-test.true, c.deref-branch-items.ensures.len) in
    let at = item_at c.args.self.now.branches.items c.deref-branch-items.result.now c.deref-branch-items.ensures.value c.loop-branch.branch-index c.branch-item.result lt c.branch-item.is in
    used_more c.args.self.now.branches.items c.loop-branch.branch-index c.branch-item.result at (λ y e. subst (SaysUsed y) c.if-not-is_used_up.false (c.is_used_up.ensures.some y e)) c.loop-branch.invariant

pub returns : goal.returns
returns c k l pairs t told p =
    let count = ap length c.deref-branch-items.ensures.value in
    let le : length c.args.self.now.branches.items ≤ c.loop-branch.branch-index = omega (arith, c.loop-branch-test.false, c.deref-branch-items.ensures.len, count) in
    ((λ e. used_all c.args.self.now.branches.items c.loop-branch.branch-index le c.loop-branch.invariant k.shape l pairs t told p), (λ e. refl))
