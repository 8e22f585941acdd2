use Rattle.thread_code.specs.Plain.{plain_block}
use Rattle.thread_rooms.proofs.Spreading.{finds_more, more_followed}
use Rattle.thread_rooms.proofs.depths.pass.Goals as goal

pub loop-at-preserved : goal.loop-at-preserved
loop-at-preserved c =
    let before = c.loop-at.depths in
    let after = c.visit.new.depths in
    let fresh = c.in_ok-fresh.fresh in
    record {
      holds = c.in_ok-fresh.ensures.holds;
      finds = finds_more c.loop-at.found fresh c.args.depths.now before after c.loop-at.invariant.finds c.in_ok-fresh.ensures.finds;
      followed = more_followed (plain_block c.args.block.now) c.loop-at.found fresh before after c.loop-at.at c.loop-at.invariant.followed c.in_ok-fresh.ensures.finds c.in_ok-fresh.ensures.followed;
    }
