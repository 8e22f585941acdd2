use Rattle.trace_ticks.proofs.Printing.{says_all, says_front}
use Rattle.trace_ticks.proofs.sink.say.Goals as goal

pub returns-in-Ok : goal.returns-in-Ok
returns-in-Ok g c =
    says_all g.K.Sink.held g.K.Sink.faults g.K.Sink.down (record { bytes = c.args.line.now; status = c.args.status }) c.args.out.now c.write_all.new.out c.requires c.in-Ok.ensures.ok

pub returns-in-Err : goal.returns-in-Err
returns-in-Err g c =
    says_front g.K.Sink.held g.K.Sink.faults g.K.Sink.down (record { bytes = c.args.line.now; status = c.args.status }) c.args.out.now c.write_all.new.out c.in-Err.ensures.cause.failed c.in-Err.ensures.err
