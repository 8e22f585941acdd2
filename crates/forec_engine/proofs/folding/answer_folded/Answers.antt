use Rattle.std.proofs.Common.{inl, refl, subst}
use Rattle.forec_kernel.specs.Shapes.{PlainKernel, plain_kernel}
use Rattle.command_words.specs.Requests.{plain_command}
use Rattle.text_verdict.specs.declared.counts.Counts.{Counts}
use Rattle.trace_ticks.proofs.Printing.{prints_nothing}
use Rattle.forec_engine.specs.Answers.{AnswersAccepted}
use Rattle.forec_engine.proofs.folding.answer_folded.Goals as goal

pub returns-in-Ok : goal.returns-in-Ok
returns-in-Ok g c =
    let a = c.in-Ok.asked in
    let done : Counts → PlainKernel → Type 0 = λ counts k.
    AnswersAccepted g.S.Source.left g.S.Source.faults g.S.Source.down g.K.Sink.held g.K.Sink.faults g.K.Sink.down (plain_command c.args.command) counts k c.args.trace.now c.answer.new.trace c.args.out.now c.answer.new.out c.answer.result in
    subst (λ (k : PlainKernel). done c.args.accepted.counts k) c.in-Ok.ensures.kernel
    (subst (λ (n : Counts). done n (plain_kernel a.kernel)) c.in-Ok.ensures.counts c.answer.ensures)

pub returns-in-Err : goal.returns-in-Err
returns-in-Err g c = record { prints = prints_nothing g.K.Sink.held g.K.Sink.faults g.K.Sink.down _ _ _ _ _ c.args.out.now c.args.out.now refl; trace = inl refl }
