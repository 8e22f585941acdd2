use Rattle.std.proofs.Common.{refl}
use Rattle.forec_kernel.specs.Shapes.{plain_kernel}
use Rattle.forec_engine.proofs.ReplayAnswered.{replay_read, replay_long}
use Rattle.forec_engine.proofs.replaying.read_and_replay.Goals as goal

pub returns-in-Ok : goal.returns-in-Ok
returns-in-Ok g c =
    replay_read g.S.Source.left g.S.Source.faults g.S.Source.down g.K.Sink.held g.K.Sink.faults g.K.Sink.down (g.T.Texts.content c.args.texts.now) c.args.replayed.log.now c.args.replayed.budget _
    c.args.trace.now c.replay_log.new.trace c.args.out.now c.replay_log.new.out (plain_kernel c.args.kernel.now) c.args.units c.requires.units
    c.in-Ok.text.items c.replay_log.result c.in-Ok.ensures.bytes.0 c.in-Ok.ensures.bytes.1 c.replay_log.ensures

pub returns-in-Err-Long : goal.returns-in-Err-Long
returns-in-Err-Long g c =
    replay_long g.S.Source.left g.S.Source.faults g.S.Source.down g.K.Sink.held g.K.Sink.faults g.K.Sink.down (g.T.Texts.content c.args.texts.now) c.args.replayed.log.now c.args.replayed.budget _
    c.args.trace.now c.args.trace.now c.args.out.now c.refuse.new.out (plain_kernel c.args.kernel.now) c.args.units c.requires.units
    c.refuse.result (rw c.in-Err-Long.field-0-is at c.in-Err-Long.ensures.bytes) refl c.refuse.ensures
