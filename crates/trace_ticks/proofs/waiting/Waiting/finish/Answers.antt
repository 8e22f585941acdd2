use Rattle.trace_ticks.proofs.Printing.{says_all, says_front, own_not_memory}
use Rattle.trace_ticks.proofs.waiting.Waiting.finish.Goals as goal

pub returns-in-Ok-clause-says : goal.returns-in-Ok-clause-says
returns-in-Ok-clause-says g c =
    says_all g.K.Sink.held g.K.Sink.faults g.K.Sink.down (record { bytes = c.args.self.now.bytes.items; status = c.args.status }) c.args.out.now c.flush.new.out c.requires c.in-Ok.ensures.ok

pub returns-in-Ok-clause-memory : goal.returns-in-Ok-clause-memory
returns-in-Ok-clause-memory g c = own_not_memory c.args.status c.requires

pub returns-in-Err-clause-says : goal.returns-in-Err-clause-says
returns-in-Err-clause-says g c =
    says_front g.K.Sink.held g.K.Sink.faults g.K.Sink.down (record { bytes = c.args.self.now.bytes.items; status = c.args.status }) c.args.out.now c.flush.new.out c.in-Err.ensures.cause.failed c.in-Err.ensures.err
