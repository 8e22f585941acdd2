use Rattle.std.proofs.Common.{rules, refl}
use Rattle.forec_base.specs.declared.limits.TheConstants.{MAX_ROWS}
use Rattle.forec_kernel.specs.Shapes.{plain_kernel}
use Rattle.trace_ticks.specs.KernelNames.{run_format}
use Rattle.trace_ticks.proofs.RunEnds.{rows_unrun}
use Rattle.trace_runs.proofs.hosting.host_trace.Goals as goal

pub returns-in_default : goal.returns-in_default
returns-in_default g c =
    rows_unrun g.S.Source.left g.S.Source.faults g.S.Source.down g.K.Sink.held g.K.Sink.faults g.K.Sink.down MAX_ROWS (run_format c.args.telling (plain_kernel c.args.kernel.now)) (plain_kernel c.args.kernel.now) c.args.budget ⊥ c.args.trace.now c.args.trace.now c.args.out.now c.args.out.now refl refl

pub returns : goal.returns
returns g c =
    rows_unrun g.S.Source.left g.S.Source.faults g.S.Source.down g.K.Sink.held g.K.Sink.faults g.K.Sink.down MAX_ROWS (run_format c.args.telling (plain_kernel c.args.kernel.now)) (plain_kernel c.args.kernel.now) c.args.budget ⊥ c.args.trace.now _ c.args.out.now _ (search rules) (search rules)
