use Rattle.std.proofs.Common.{rules, ◌≡◌, sym, ap, ◌∙◌, subst}
use Rattle.forec_kernel.specs.Shapes.{PlainShape, plain_shape}
use Rattle.forec_kernel.specs.Texts.{uses_in}
use Rattle.forec_kernel.specs.Ticks.{goes_on, values_of}
use Rattle.forec_kernel.specs.Packed.{IsJob}
use Rattle.combine_tree.specs.Plain.{plain_packet}
use Rattle.core_machine.specs.Threads.{CanBegin}
use Rattle.tick_jobs.specs.Jobs.{job_of}
use Rattle.one_core.specs.Seats.{Seated, seated_code}
use Rattle.tick_jobs.specs.Ticks.{RunsTick}
use Rattle.one_core.specs.Single.{Single, single, single_ticking}
use Rattle.one_core.proofs.TickRun.{is_between, can_begin, it_replied, now_single, ran}
use Rattle.one_core.proofs.single.OneCore.tick.Goals as goal

pub write_job-requires-clause-between : goal.write_job-requires-clause-between
write_job-requires-clause-between g c =
    is_between (single c.self.inside.calls c.self.inside.root c.self.inside.live) c.self.invariant (ap (λ (o : Single). o.live) c.self.view_is ∙ c.requires.can.live)

pub work-requires-clause-job : goal.work-requires-clause-job
work-requires-clause-job g c t sits =
    subst (CanBegin t) (sym c.write_job.ensures.kind) (can_begin (single c.self.inside.calls c.self.inside.root c.self.inside.live) c.self.invariant (ap (λ (o : Single). o.live) c.self.view_is ∙ c.requires.can.live) t sits)

pub write_outcome-outcome-requires-clause-replied : goal.write_outcome-outcome-requires-clause-replied
write_outcome-outcome-requires-clause-replied g c =
    it_replied (single c.self.inside.calls c.self.inside.root c.self.inside.live) c.self.invariant c.work.new.self c.write_job.new.packet c.work.new.packet _ c.write_job.ensures.job c.work.ensures.replied c.work.ensures.kind

pub invariant_of-self : goal.invariant_of-self
invariant_of-self g c =
    let shape : plain_shape c.shape.result.now ≡ (seated_code c.self.inside.calls).shape = ap plain_shape c.shape.ensures.same ∙ ap (λ (v : Seated). (seated_code v).shape) c.calls.view_is in
    let live : c.match-matches.live ≡ goes_on c.write_outcome-outcome.result = search rules in
    now_single c.self.inside.calls c.work.new.self c.self.inside.root c.work.new.packet c.write_job.new.packet c.self.inside.live c.match-matches.live c.self.invariant (ap (λ (o : Single). o.live) c.self.view_is ∙ c.requires.can.live) c.args.row.now c.args.budget
    (subst (λ s. IsJob (plain_packet c.write_job.new.packet) (job_of s c.self.inside.root c.args.row.now c.args.budget)) shape c.write_job.ensures.job)
    c.work.ensures.code c.work.ensures.fitted c.work.ensures.room c.work.ensures.kind c.work.ensures.replied c.write_outcome-outcome.result c.write_outcome-outcome.ensures.outcome live

pub returns : goal.returns
returns g c =
    let shape : plain_shape c.shape.result.now ≡ (seated_code c.self.inside.calls).shape = ap plain_shape c.shape.ensures.same ∙ ap (λ (v : Seated). (seated_code v).shape) c.calls.view_is in
    let live : c.match-matches.live ≡ goes_on c.write_outcome-outcome.result = search rules in
    let copies = c.work.new.packet.copies.items in
    let shape2 = ap plain_shape c.shape-2.ensures.same ∙ ap (λ (v : Seated). (seated_code v).shape) c.calls.view_is in
    record {
      runs =
          subst (λ (o : Single). RunsTick (single_ticking o) (single_ticking (single c.work.new.self c.work.new.packet c.match-matches.live)) c.args.row.now c.args.budget c.write_outcome-outcome.result c.args.outputs.now c.write_outcome-outcome.new.outputs) c.self.view_is
          (ran c.self.inside.calls c.work.new.self c.self.inside.root c.work.new.packet c.write_job.new.packet c.self.inside.live c.match-matches.live c.self.invariant (ap (λ (o : Single). o.live) c.self.view_is ∙ c.requires.can.live) c.args.row.now c.args.budget
          (subst (λ s. IsJob (plain_packet c.write_job.new.packet) (job_of s c.self.inside.root c.args.row.now c.args.budget)) shape c.write_job.ensures.job)
          c.work.ensures.code c.work.ensures.fitted c.work.ensures.room c.work.ensures.kind c.work.ensures.replied c.write_outcome-outcome.result c.write_outcome-outcome.ensures.outcome live
          c.args.outputs.now c.write_outcome-outcome.new.outputs
          (λ has. c.write_outcome-outcome.ensures.outputs has ∙ ap (λ (s : PlainShape). values_of (uses_in s.threads 0) copies s.outputs) shape2)
          c.write_outcome-outcome.ensures.stay);
    }
