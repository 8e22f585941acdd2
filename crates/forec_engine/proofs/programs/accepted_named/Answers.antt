use Rattle.std.proofs.Common.{◌<◌, length, refl}
use Rattle.text_verdict.specs.Judging.{too_long, most_text_bytes}
use Rattle.text_verdict.specs.declared.refusal.Refusal.TheVariants as refusal
use Rattle.trace_ticks.proofs.Printing.{said_as, told_is}
use Rattle.forec_engine.specs.Commands.{refused}
use Rattle.forec_engine.proofs.Named.{read_program, read_refusal}
use Rattle.forec_engine.proofs.programs.accepted_named.Goals as goal

pub returns-in-Ok-clause-ok : goal.returns-in-Ok-clause-ok
returns-in-Ok-clause-ok g c =
    read_program (g.T.Texts.content c.args.texts.now c.args.name.now) c.in-Ok.text.items c.in-Ok.ensures.bytes.1 c.accepted_text.result (rw c.deref.ensures.value at c.accepted_text.ensures.ok)

pub returns-in-Ok-clause-err : goal.returns-in-Ok-clause-err
returns-in-Ok-clause-err g c =
    read_refusal (g.T.Texts.content c.args.texts.now c.args.name.now) c.in-Ok.text.items c.in-Ok.ensures.bytes.1 g.K.Sink.held g.K.Sink.faults g.K.Sink.down c.args.out.now c.accepted_text.new.out _ c.accepted_text.result
    (rw c.deref.ensures.value at c.accepted_text.ensures.err)

pub returns-in-Err-Long-clause-err : goal.returns-in-Err-Long-clause-err
returns-in-Err-Long-clause-err g c =
    let text = g.T.Texts.content c.args.texts.now c.args.name.now in
    let long = rw c.in-Err-Long.field-0-is at c.in-Err-Long.ensures.bytes in
    said_as g.K.Sink.held g.K.Sink.faults g.K.Sink.down (refused refusal.Long) c.args.out.now c.refuse.new.out ⊥ _ _ _ _ _ c.refuse.result
    (λ t. (t.0, t.1, (refusal.Long, too_long (told_is text (λ x. most_text_bytes < length x) t.0 long t.1), refl))) (λ n. n) c.refuse.ensures
