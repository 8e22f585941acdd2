use Rattle.std.proofs.Common.{sym, subst}
use Rattle.trace_ticks.specs.Prints.{PrintsReport}
use Rattle.trace_ticks.specs.declared.status.Status.{Status}
use Rattle.forec_engine.specs.Dumps.{dump_printed}
use Rattle.forec_engine.proofs.DumpLemmas.{said}
use Rattle.forec_engine.proofs.dumps.tell_text.Goals as goal

pub returns : goal.returns
returns g c =
    subst (λ (s : Status). PrintsReport g.K.Sink.held g.K.Sink.faults g.K.Sink.down (dump_printed c.args.text.now) ⊥ c.args.out.now c.tell.new.out s) (sym c.status_of.ensures)
    (said g.K.Sink.held g.K.Sink.faults g.K.Sink.down c.args.text.now c.args.out.now c.tell.new.out c.tell.result c.tell.ensures.own c.tell.ensures.write c.tell.ensures.memory)
