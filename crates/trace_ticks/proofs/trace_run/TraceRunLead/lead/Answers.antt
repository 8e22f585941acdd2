use Rattle.std.proofs.Common.{refl, sym, ◌∙◌}
use Rattle.trace_ticks.proofs.RunEnds.{rows_as}
use Rattle.trace_ticks.proofs.trace_run.TraceRunLead.lead.Goals as goal

pub returns : goal.returns
returns g c = λ k s.
    let session = c.args.self.now.session.now in (
      refl,
      refl,
      rows_as g.S.Source.left g.S.Source.faults g.S.Source.down g.K.Sink.held g.K.Sink.faults g.K.Sink.down session.limit session.waiting.format k session.budget _ ⊥ c.args.self.now.trace.now c.run.new.trace c.args.self.now.out.now c.run.new.out c.run.result
          (λ e. (let h = sym c.requires.ready ∙ e in cc)) (c.run.ensures.runs k s),
    )
