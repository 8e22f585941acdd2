use Rattle.std.proofs.Common.{inl, refl}
use Rattle.forec_kernel.specs.Shapes.{plain_kernel}
use Rattle.forec_engine.proofs.FarmPieces.{fell_later}
use Rattle.forec_engine.proofs.Named.{no_program}
use Rattle.forec_engine.proofs.ReplayAnswered.{replay_accepted}
use Rattle.forec_engine.proofs.replaying.replay_named.Goals as goal

pub returns-in-Ok : goal.returns-in-Ok
returns-in-Ok g c =
    let a = c.in-Ok.accepted in
    let faults = g.T.Texts.faults in
    let content = g.T.Texts.content in
    replay_accepted g.S.Source.left g.S.Source.faults g.S.Source.down g.K.Sink.held g.K.Sink.faults g.K.Sink.down (content c.args.texts.now) c.args.replayed.log.now c.args.replayed.budget _
    c.args.trace.now c.replay_kernel.new.trace c.args.out.now c.replay_kernel.new.out c.args.name.now a.counts (plain_kernel a.kernel) (content c.accepted_named.new.texts) c.in-Ok.ensures.content _
    (fell_later (faults c.args.texts.now) (faults c.accepted_named.new.texts) (faults c.replay_kernel.new.texts) (g.T.Texts.down c.replay_kernel.new.texts) c.in-Ok.ensures.later)
    c.replay_kernel.result c.in-Ok.ensures.ok (rw c.in-Ok.ensures.kept at c.replay_kernel.ensures)

pub returns-in-Err : goal.returns-in-Err
returns-in-Err g c = record {
  prints = no_program g.K.Sink.held g.K.Sink.faults g.K.Sink.down c.args.out.now c.accepted_named.new.out (g.T.Texts.content c.args.texts.now c.args.name.now) _ _ _ _ _ _ c.in-Err.end (λ t. (t.0, t.2)) (λ u. inl u) c.in-Err.ensures.err;
  trace = inl refl;
}
