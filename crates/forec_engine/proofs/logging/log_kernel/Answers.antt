use Rattle.std.proofs.Common.{inl, refl, sym}
use Rattle.forec_kernel.specs.Shapes.{plain_kernel}
use Rattle.command_words.specs.Requests.{plain_running}
use Rattle.trace_ticks.proofs.Printing.{prints_nothing}
use Rattle.forec_engine.proofs.LogAnswered.{log_boundless}
use Rattle.forec_engine.proofs.logging.log_kernel.Goals as goal

pub returns-in-Ok-None : goal.returns-in-Ok-None
returns-in-Ok-None g c =
    let none = rw c.in-Ok-None.field-0-is at c.in-Ok-None.ensures.units in
    log_boundless g.S.Source.left g.S.Source.faults g.S.Source.down g.K.Sink.held g.K.Sink.faults g.K.Sink.down (plain_running c.args.running) c.args.trace.now c.args.trace.now c.args.out.now c.say_boundless.new.out
    (plain_kernel c.args.kernel.now) c.say_boundless.result (sym none) refl c.say_boundless.ensures

pub returns-in-Err : goal.returns-in-Err
returns-in-Err g c = record { prints = prints_nothing g.K.Sink.held g.K.Sink.faults g.K.Sink.down _ _ _ _ _ c.args.out.now c.args.out.now refl; trace = inl refl }
