use Rattle.std.proofs.Common.{inl, refl}
use Rattle.forec_kernel.specs.Shapes.{plain_kernel}
use Rattle.command_words.specs.Requests.{plain_command}
use Rattle.forec_engine.proofs.Named.{named_accepted, no_program}
use Rattle.forec_engine.proofs.command.run_named.Goals as goal

pub returns-in-Ok : goal.returns-in-Ok
returns-in-Ok g c =
    let a = c.in-Ok.accepted in
    named_accepted g.S.Source.left g.S.Source.faults g.S.Source.down g.K.Sink.held g.K.Sink.faults g.K.Sink.down (plain_command c.args.task.command) c.args.task.fold c.args.trace.now c.answer_folded.new.trace c.args.out.now c.answer_folded.new.out
    (g.T.Texts.content c.args.texts.now) c.args.name.now _ a.counts (plain_kernel a.kernel) c.answer_folded.result c.in-Ok.ensures.ok (rw c.in-Ok.ensures.kept at c.answer_folded.ensures)

pub returns-in-Err : goal.returns-in-Err
returns-in-Err g c = record {
  prints = no_program g.K.Sink.held g.K.Sink.faults g.K.Sink.down c.args.out.now c.accepted_named.new.out (g.T.Texts.content c.args.texts.now c.args.name.now) _ _ _ _ _ _ c.in-Err.end (λ t. (t.0, t.1)) (λ u. inl u) c.in-Err.ensures.err;
  trace = inl refl;
}
