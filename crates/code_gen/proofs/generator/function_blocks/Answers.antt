use Rattle.std.proofs.Common.{arith}
use Rattle.code_gen.proofs.Written.{function_kept}
use Rattle.code_gen.proofs.generator.function_blocks.Goals as goal

pub loop-f-preserved : goal.loop-f-preserved
loop-f-preserved c =
    function_kept c.args.parts.now c.loop-f.f c.index.result.now c.index-in-loop-f.result.now c.deref.result.now c.loop-f.blocks.items c.push.new.self.items c.in_ok-block.block
    (omega (arith, c.loop-f-test.true, c.len-f-end.ensures, c.args.parts.now.functions.ok.0)) c.requires c.index.ensures c.index-in-loop-f.ensures c.deref.ensures.value c.loop-f.invariant c.in_ok-push.ensures.items c.in_ok-block.ensures
