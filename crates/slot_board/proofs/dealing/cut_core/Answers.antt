use Rattle.std.proofs.Common.{rules, arith, ◌≡◌, ◌<◌, ◌++◌, ◌∷◌, [], length, ap, ◌∙◌, true}
use Rattle.std.specs.Result.{is_ok}
use Rattle.std.proofs.lemmas.Grind.{common_steps}
use Rattle.std.proofs.lemmas.Option.{get_or_from_slice_get}
use Rattle.copy_slots.proofs.Seating.{at_index}
use Rattle.slot_board.specs.Dealt.{taken_by_core, left_by_core}
use Rattle.slot_board.proofs.Cutting.{partly_start, partly_more, partly_all, get_there}
use Rattle.slot_board.proofs.dealing.cut_core.Goals as goal

pub loop-k-init : goal.loop-k-init
loop-k-init g c = partly_start c.args.core c.args.ends.now c.args.all.now.items c.new-mine.result.items c.new-mine.ensures.items

pub index_mut-requires : goal.index_mut-requires
index_mut-requires g c = let n = c.loop-k.invariant.rest_long in let m = c.requires in let t = c.loop-k-test.true in omega (arith, n, m, t)

pub loop-k-preserved : goal.loop-k-preserved
loop-k-preserved g c = let i = c.loop-k.invariant in let k = c.loop-k.k in let ends = c.args.ends.now in let a = c.index_mut.result.now in let r = c.take_ends-seats.result in
    let near : k < length c.loop-k.all.items = let n = i.rest_long in let m = c.requires in let t = c.loop-k-test.true in omega (arith, n, m, t) in
    let e = get_there ends k (let t = c.loop-k-test.true in omega (arith, t)) in let same = get_or_from_slice_get ends k e.0 _ e.1 in
    let went : is_ok c.push.result ≡ true = first_of (search rules, grind (arith, common_steps)) in let items : c.push.new.self.items ≡ c.loop-k.mine.items ++ r ∷ [] = rw went at c.push.ensures.items in
    rw items (partly_more c.args.core ends c.args.all.now.items k c.loop-k.mine.items c.loop-k.all.items e.0 a r c.take_ends-seats.new.all i near e.1 (at_index c.loop-k.all.items k a near c.index_mut.ensures.value)
    (c.take_ends-seats.ensures.0 ∙ ap (λ q. taken_by_core c.args.core q a) same) (c.take_ends-seats.ensures.1 ∙ ap (λ q. left_by_core c.args.core q a) same))

pub returns : goal.returns
returns g c = let t = c.loop-k-test.false in let auto = c.loop-k.auto.k-end in partly_all c.args.core c.args.ends.now c.args.all.now.items c.loop-k.k c.loop-k.mine.items c.loop-k.all.items c.requires (omega (arith, t)) (omega (arith, auto)) c.loop-k.invariant
