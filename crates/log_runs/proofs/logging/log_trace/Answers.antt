use Rattle.std.proofs.Common.{refl}
use Rattle.forec_base.specs.declared.limits.TheConstants.{MAX_ROWS}
use Rattle.forec_kernel.specs.Shapes.{plain_kernel}
use Rattle.log_runs.proofs.RunLemmas.{log_unrun}
use Rattle.log_runs.proofs.logging.log_trace.Goals as goal

pub returns-in_default : goal.returns-in_default
returns-in_default g c =
    log_unrun g.S.Source.left g.S.Source.faults g.S.Source.down g.K.Sink.held g.K.Sink.faults g.K.Sink.down MAX_ROWS (plain_kernel c.args.kernel.now) c.args.budget c.args.trace.now c.args.trace.now c.args.out.now c.args.out.now refl refl
