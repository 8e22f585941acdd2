use Rattle.forec_engine.proofs.FarmReading.{read_short, read_long}
use Rattle.forec_engine.proofs.farm_traces.read_trace.Goals as goal

pub returns-in-Ok-clause-read : goal.returns-in-Ok-clause-read
returns-in-Ok-clause-read g c =
    read_short (g.T.Texts.content c.args.texts.now c.args.name.now) c.in-Ok.bytes.items c.shrink_to_fit.new.self.items c.shrink_to_fit.ensures.items c.in-Ok.ensures.bytes.0 c.in-Ok.ensures.bytes.1

pub returns-in-Err-Long-clause-read : goal.returns-in-Err-Long-clause-read
returns-in-Err-Long-clause-read g c =
    read_long (g.T.Texts.content c.args.texts.now c.args.name.now) c.new.result.items c.new.ensures.items (rw c.in-Err-Long.field-0-is at c.in-Err-Long.ensures.bytes)
