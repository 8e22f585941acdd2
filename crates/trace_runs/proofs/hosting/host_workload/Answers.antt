use Rattle.std.proofs.Common.{rules, refl}
use Rattle.forec_kernel.specs.Shapes.{plain_kernel}
use Rattle.trace_ticks.specs.Workload.{ticked_report}
use Rattle.trace_ticks.proofs.RunEnds.{workload_unrun}
use Rattle.trace_runs.proofs.hosting.host_workload.Goals as goal

pub returns-in_default : goal.returns-in_default
returns-in_default g c =
    workload_unrun g.K.Sink.held g.K.Sink.faults g.K.Sink.down (ticked_report c.args.threads (plain_kernel c.args.kernel.now) c.args.budget) ⊥ c.args.out.now c.args.out.now refl

pub returns : goal.returns
returns g c =
    workload_unrun g.K.Sink.held g.K.Sink.faults g.K.Sink.down (ticked_report c.args.threads (plain_kernel c.args.kernel.now) c.args.budget) ⊥ c.args.out.now _ (search rules)
