use Rattle.std.proofs.Common.{arith}
use Rattle.core_bells.proofs.Lists.{at_index}
use Rattle.core_bells.proofs.Dealing.{dealt_more}
use Rattle.core_bells.proofs.passes.passes_of.Goals as goal

pub loop-at-preserved : goal.loop-at-preserved
loop-at-preserved c =
    let i = c.loop-at.invariant in let at = c.loop-at.at in let t = c.loop-at-test.true in let n = i.fit.long in let next = c.next_pass-pass in
    rw c.in_ok-push.ensures.items (dealt_more c.args.core c.args.queues.now at c.loop-at.firsts.items c.loop-at.passes.items c.index-queues-at.result c.index_mut.result.now next.new.first next.result
    (at_index c.args.queues.now at c.index-queues-at.result (omega (arith, t)) c.index-queues-at.is)
    (at_index c.loop-at.firsts.items at c.index_mut.result.now (omega (arith, t, n)) c.index_mut.ensures.value)
    i next.ensures.pass next.ensures.log next.ensures.next_pass next.ensures.next_log)
