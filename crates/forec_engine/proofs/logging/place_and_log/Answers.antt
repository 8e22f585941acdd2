use Rattle.std.proofs.Common.{refl}
use Rattle.forec_kernel.specs.Shapes.{plain_kernel}
use Rattle.command_words.specs.Requests.{plain_running}
use Rattle.forec_engine.proofs.LogAnswered.{log_placed, log_misplaced}
use Rattle.forec_engine.proofs.logging.place_and_log.Goals as goal

pub returns-in-Ok : goal.returns-in-Ok
returns-in-Ok g c =
    log_placed g.S.Source.left g.S.Source.faults g.S.Source.down g.K.Sink.held g.K.Sink.faults g.K.Sink.down (plain_running c.args.running) c.args.trace.now c.log_trace.new.trace c.args.out.now c.log_trace.new.out
    (plain_kernel c.args.kernel.now) c.args.units c.requires.units c.log_trace.result c.in-Ok.ensures.taken c.log_trace.ensures

pub returns-in-Err : goal.returns-in-Err
returns-in-Err g c =
    log_misplaced g.S.Source.left g.S.Source.faults g.S.Source.down g.K.Sink.held g.K.Sink.faults g.K.Sink.down (plain_running c.args.running) c.args.trace.now c.args.trace.now c.args.out.now c.misplace.new.out
    (plain_kernel c.args.kernel.now) c.args.units c.requires.units c.misplace.result c.in-Err.why c.in-Err.ensures.refused refl c.misplace.ensures
