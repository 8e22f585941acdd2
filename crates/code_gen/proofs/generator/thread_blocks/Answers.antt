use Rattle.std.proofs.Common.{arith}
use Rattle.code_gen.proofs.Written.{thread_kept}
use Rattle.code_gen.proofs.generator.thread_blocks.Goals as goal

pub loop-t-preserved : goal.loop-t-preserved
loop-t-preserved c =
    thread_kept c.args.parts.now c.loop-t.t c.index.result.now c.index-in-loop-t.result.now c.deref.result.now c.loop-t.blocks.items c.push.new.self.items c.in_ok-block.block
    (omega (arith, c.loop-t-test.true, c.len-t-end.ensures, c.args.parts.now.threads.ok.0)) c.requires c.index.ensures c.index-in-loop-t.ensures c.deref.ensures.value c.loop-t.invariant c.in_ok-push.ensures.items c.in_ok-block.ensures
