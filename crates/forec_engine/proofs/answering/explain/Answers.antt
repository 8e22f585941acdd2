use Rattle.std.proofs.Common.{inl, refl, sym}
use Rattle.forec_kernel.specs.Shapes.{plain_kernel}
use Rattle.trace_ticks.proofs.Printing.{prints_nothing}
use Rattle.forec_engine.proofs.Answered.{explained, explain_boundless}
use Rattle.forec_engine.proofs.answering.explain.Goals as goal

pub returns-in-Ok-Some : goal.returns-in-Ok-Some
returns-in-Ok-Some g c =
    let a = c.args.accepted.now in
    let some = rw c.in-Ok-Some.field-0-is at c.in-Ok-Some.ensures.units in
    explained g.K.Sink.held g.K.Sink.faults g.K.Sink.down c.args.out.now c.rewrite_trace.new.out c.rewrite_trace.result g.S.Source.left g.S.Source.faults g.S.Source.down a.counts (plain_kernel a.kernel) c.args.trace.now c.rewrite_trace.new.trace
    c.args.budget c.args.order c.in-Ok-Some.units (sym some) c.rewrite_trace.ensures

pub returns-in-Ok-None : goal.returns-in-Ok-None
returns-in-Ok-None g c =
    let a = c.args.accepted.now in
    let none = rw c.in-Ok-None.field-0-is at c.in-Ok-None.ensures.units in
    explain_boundless g.K.Sink.held g.K.Sink.faults g.K.Sink.down c.args.out.now c.say_boundless.new.out c.say_boundless.result g.S.Source.left g.S.Source.faults g.S.Source.down a.counts (plain_kernel a.kernel) c.args.trace.now c.args.trace.now
    c.args.budget c.args.order (sym none) refl c.say_boundless.ensures

pub returns-in-Err : goal.returns-in-Err
returns-in-Err g c = record { prints = prints_nothing g.K.Sink.held g.K.Sink.faults g.K.Sink.down _ _ _ _ _ c.args.out.now c.args.out.now refl; trace = inl refl }
