use Rattle.std.proofs.Common.{ℕ, ◌≡◌, ◌<◌, ◌*◌, ◌+◌, Bool, true, false, cond, ap, refl, arith}
use Rattle.loop_check.specs.Graph.{callees, trues}
use Rattle.loop_check.proofs.Ordered.{finished}
use Rattle.loop_check.proofs.graph.order.Goals as goal

falls : (moved before : Bool) (a b : ℕ) → before ≡ true → (moved ≡ true → a < b) → (moved ≡ false → a ≡ b) → 2 * a + cond moved 1 0 < 2 * b + cond before 1 0
falls true before a b h m s = let l = m refl in rw h (omega (arith, l))
falls false before a b h m s = let e = s refl in rw h (omega (arith, e))

pub loop-moved-smaller : goal.loop-moved-smaller
loop-moved-smaller c =
    falls c.in_ok-moved.moved c.loop-moved.moved (trues c.round.new.marks.items) (trues c.loop-moved.marks.items) c.loop-moved-test.true c.in_ok-moved.ensures.moved
    (λ e. ap trues (c.in_ok-moved.ensures.marks e))

pub returns : goal.returns
returns c =
    finished c.args.functions.now (callees c.args.calls.now) c.loop-moved.marks.items c.loop-moved.order.items 0 c.loop-moved.invariant.0 (c.loop-moved.invariant.1 c.loop-moved-test.false)
