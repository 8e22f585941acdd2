use Rattle.dump_report.proofs.Answered.{tells_all, tells_front}
use Rattle.dump_report.proofs.sending.say.Goals as goal

pub returns-in-Ok : goal.returns-in-Ok
returns-in-Ok g c =
    tells_all g.K.Sink.held g.K.Sink.faults g.K.Sink.down (record { bytes = c.args.line.now; status = c.args.status }) c.args.out.now c.write_all.new.out c.requires c.in-Ok.ensures.ok

pub returns-in-Err : goal.returns-in-Err
returns-in-Err g c =
    tells_front g.K.Sink.held g.K.Sink.faults g.K.Sink.down (record { bytes = c.args.line.now; status = c.args.status }) c.args.out.now c.write_all.new.out c.in-Err.ensures.cause.failed c.in-Err.ensures.err
