use Rattle.std.proofs.Common.{arith, ◌<◌, length}
use Rattle.copy_slots.proofs.Seating.{at_index}
use Rattle.slot_board.proofs.Uniting.{far_start, far_more, far_all}
use Rattle.slot_board.proofs.joining.join_seats.Goals as goal

pub loop-k-init : goal.loop-k-init
loop-k-init g c = far_start c.args.mine.now.items c.args.theirs.items

pub index_mut-requires : goal.index_mut-requires
index_mut-requires g c = let n = c.loop-k.invariant.now_long in let t = c.loop-k-test.true in omega (arith, n, t)

pub loop-k-preserved : goal.loop-k-preserved
loop-k-preserved g c = let i = c.loop-k.invariant in let k = c.loop-k.k in let t = c.loop-k-test.true in let m = c.requires in let n = i.now_long in let l = i.left_long in
    let near : k < length c.loop-k.mine.items = omega (arith, n, t) in let near' : k < length c.loop-k.theirs.items = omega (arith, l, m, t) in
    far_more c.args.mine.now.items c.args.theirs.items k c.loop-k.mine.items c.loop-k.theirs.items c.index_mut.result.now c.index_mut-in-loop-k.result.now c.join_ends.new.mine c.join_ends.new.theirs i near
    (at_index c.loop-k.mine.items k c.index_mut.result.now near c.index_mut.ensures.value) (at_index c.loop-k.theirs.items k c.index_mut-in-loop-k.result.now near' c.index_mut-in-loop-k.ensures.value) c.join_ends.ensures

pub returns : goal.returns
returns g c = let t = c.loop-k-test.false in far_all c.args.mine.now.items c.args.theirs.items c.loop-k.k c.loop-k.mine.items c.loop-k.theirs.items (omega (arith, t)) c.loop-k.invariant
