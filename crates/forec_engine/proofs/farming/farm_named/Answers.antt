use Rattle.std.proofs.Common.{map}
use Rattle.forec_kernel.specs.Shapes.{plain_kernel}
use Rattle.forec_engine.proofs.FarmPieces.{fell_later}
use Rattle.forec_engine.proofs.FarmPrinting.{farm_accepted}
use Rattle.forec_engine.proofs.Named.{no_program}
use Rattle.forec_engine.proofs.farming.farm_named.Goals as goal

pub returns-in-Ok : goal.returns-in-Ok
returns-in-Ok g c =
    let a = c.in-Ok.accepted in
    let faults = g.T.Texts.faults in
    farm_accepted g.K.Sink.held g.K.Sink.faults g.K.Sink.down c.args.out.now c.farm_kernel.new.out (g.T.Texts.content c.args.texts.now) (map (λ n. n.now) c.args.farmed.traces.now) _ c.farm_kernel.result
    (plain_kernel a.kernel) c.args.farmed.budget c.args.name.now a.counts (g.T.Texts.content c.accepted_named.new.texts) c.in-Ok.ensures.content _
    (λ u. (fell_later (faults c.args.texts.now) (faults c.accepted_named.new.texts) (faults c.farm_kernel.new.texts) (g.T.Texts.down c.farm_kernel.new.texts) c.in-Ok.ensures.later u.0, u.1))
    c.in-Ok.ensures.ok (rw c.in-Ok.ensures.kept at c.farm_kernel.ensures)

pub returns-in-Err : goal.returns-in-Err
returns-in-Err g c = no_program g.K.Sink.held g.K.Sink.faults g.K.Sink.down c.args.out.now c.accepted_named.new.out (g.T.Texts.content c.args.texts.now c.args.name.now) _ _ _ _ _ _ c.in-Err.end (λ t. (t.0, t.1)) (λ u. u) c.in-Err.ensures.err
