use Rattle.std.proofs.Common.{refl, ap, ◌∙◌}
use Rattle.trace_ticks.specs.Formats.{opening}
use Rattle.trace_ticks.specs.Workload.{ticked_report}
use Rattle.trace_ticks.proofs.TickingLemmas.{put_said}
use Rattle.trace_ticks.proofs.workload_run.WorkloadRunLead.lead.Goals as goal

pub returns : goal.returns
returns g c = λ k s.
    let session = c.args.self.now.session.now in (
      refl,
      put_said g.K.Sink.held g.K.Sink.faults g.K.Sink.down session.waiting c.run_workload-status.new.waiting (ticked_report c.args.self.now.threads k session.budget) c.run_workload-status.result c.args.self.now.out.now c.finish.new.out c.finish.result
          (c.run_workload-status.ensures.report k s) (c.requires.can.0.opened ∙ ap opening c.requires.can.2.1) c.run_workload-status.ensures.usage c.finish.ensures.says,
    )
