use Rattle.std.proofs.Common.{subst}
use Rattle.trace_ticks.specs.Prints.{PrintsReport}
use Rattle.forec_engine.specs.Dumps.{dump_printed}
use Rattle.forec_engine.proofs.DumpLemmas.{named_told, named_too_long}
use Rattle.forec_engine.proofs.dumps.tell_named.Goals as goal

pub returns-in-Ok : goal.returns-in-Ok
returns-in-Ok g c =
    named_told g.K.Sink.held g.K.Sink.faults g.K.Sink.down (g.T.Texts.content c.args.texts.now) c.args.name.now _ c.args.out.now c.tell_text.new.out c.in-Ok.text.items c.tell_text.result c.in-Ok.ensures.bytes.1
    (subst (λ t. PrintsReport g.K.Sink.held g.K.Sink.faults g.K.Sink.down (dump_printed t) ⊥ c.args.out.now c.tell_text.new.out c.tell_text.result) c.deref.ensures.value c.tell_text.ensures)

pub returns-in-Err-Long : goal.returns-in-Err-Long
returns-in-Err-Long g c =
    named_too_long g.K.Sink.held g.K.Sink.faults g.K.Sink.down (g.T.Texts.content c.args.texts.now) c.args.name.now _ c.args.out.now c.refuse.new.out c.dumps_are_told.ensures.long c.refuse.result
    (rw c.in-Err-Long.field-0-is at c.in-Err-Long.ensures.bytes) c.refuse.ensures
