use Rattle.std.proofs.Common.{inl, refl}
use Rattle.forec_kernel.specs.Shapes.{plain_kernel}
use Rattle.command_words.specs.Requests.{plain_running}
use Rattle.forec_engine.proofs.LogAnswered.{log_accepted}
use Rattle.forec_engine.proofs.Named.{no_program}
use Rattle.forec_engine.proofs.logging.log_named.Goals as goal

pub returns-in-Ok : goal.returns-in-Ok
returns-in-Ok g c =
    let a = c.in-Ok.accepted in
    log_accepted g.S.Source.left g.S.Source.faults g.S.Source.down g.K.Sink.held g.K.Sink.faults g.K.Sink.down (plain_running c.args.running) c.args.trace.now c.log_kernel.new.trace c.args.out.now c.log_kernel.new.out
    (g.T.Texts.content c.args.texts.now) c.args.name.now _ a.counts (plain_kernel a.kernel) c.log_kernel.result c.in-Ok.ensures.ok (rw c.in-Ok.ensures.kept at c.log_kernel.ensures)

pub returns-in-Err : goal.returns-in-Err
returns-in-Err g c = record {
  prints = no_program g.K.Sink.held g.K.Sink.faults g.K.Sink.down c.args.out.now c.accepted_named.new.out (g.T.Texts.content c.args.texts.now c.args.name.now) _ _ _ _ _ _ c.in-Err.end (λ t. (t.0, t.1)) (λ u. inl u) c.in-Err.ensures.err;
  trace = inl refl;
}
