use Rattle.std.proofs.Common.{rules, ◌≡◌, ◌<◌, ◌≤◌, true, length, refl, sym, ap, ◌∙◌, subst, arith}
use Rattle.forec_base.specs.declared.limits.TheConstants.{MAX_BUDGET}
use Rattle.forec_kernel.specs.Shapes.{PlainShape, plain_shape}
use Rattle.forec_kernel.specs.Texts.{uses_in}
use Rattle.forec_kernel.specs.Ticks.{goes_on, values_of}
use Rattle.forec_kernel.specs.Packed.{IsJob}
use Rattle.thread_code.specs.declared.instruction.CodeParts.{CodeParts}
use Rattle.thread_code.specs.Plain.{plain_code}
use Rattle.combine_tree.specs.Plain.{plain_packet}
use Rattle.core_machine.specs.Threads.{CanBegin}
use Rattle.tick_jobs.specs.Jobs.{job_of}
use Rattle.core_seats.specs.Keeping.{SchedulerState, code_in}
use Rattle.core_host.specs.Hosted.{Hosted, hosted, code_of, IsSameHost, is_here}
use Rattle.core_host.specs.Runs.{ticking}
use Rattle.tick_jobs.specs.Ticks.{RunsTick}
use Rattle.core_host.proofs.HostedLemmas.{each_between}
use Rattle.core_host.proofs.TickRun.{beside_rested, is_between, can_begin, now_hosted, ran}
use Rattle.tick_jobs.proofs.Readiness.{replied_of}
use Rattle.core_host.proofs.host.Host.tick.Goals as goal

pub write_job-requires-clause-between : goal.write_job-requires-clause-between
write_job-requires-clause-between g c = is_between (hosted c.self.inside.scheduler c.self.inside.cores.items c.self.inside.root c.self.inside.live c.self.inside.round.rope) c.self.invariant (subst (λ (h : Hosted). is_here h 0 ≡ true) (sym c.self.view_is) c.requires.here) (ap (λ (h : Hosted). h.live) c.self.view_is ∙ c.requires.can.live)

pub work_beside-requires-clause-job : goal.work_beside-requires-clause-job
work_beside-requires-clause-job g c t sits =
    subst (CanBegin t) (sym c.write_job.ensures.kind) (can_begin (hosted c.self.inside.scheduler c.self.inside.cores.items c.self.inside.root c.self.inside.live c.self.inside.round.rope) c.self.invariant (subst (λ (h : Hosted). is_here h 0 ≡ true) (sym c.self.view_is) c.requires.here) (ap (λ (h : Hosted). h.live) c.self.view_is ∙ c.requires.can.live) t sits)

pub write_outcome-outcome-requires-clause-replied : goal.write_outcome-outcome-requires-clause-replied
write_outcome-outcome-requires-clause-replied g c =
    let root = c.work_beside.ensures.root in replied_of root.thread c.work_beside.new.packet.kind (c.work_beside.ensures.kind root.thread root.sits)

pub invariant_of-self : goal.invariant_of-self
invariant_of-self g c =
    let shape : plain_shape c.shape.result.now ≡ (code_in c.self.inside.scheduler).shape = ap plain_shape c.shape.ensures.same ∙ ap (λ (s : SchedulerState). (code_in s).shape) c.scheduler.view_is in
    let live : c.match-matches.live ≡ goes_on c.write_outcome-outcome.result = search rules in
    now_hosted c.self.inside.scheduler c.work_beside.new.self c.self.inside.cores.items c.self.inside.root c.work_beside.new.packet c.write_job.new.packet c.self.inside.live c.match-matches.live c.self.inside.round.rope c.work_beside.new.round.rope c.self.invariant (ap (λ (h : Hosted). h.live) c.self.view_is ∙ c.requires.can.live)
    c.args.row.now c.args.budget (subst (λ s. IsJob (plain_packet c.write_job.new.packet) (job_of s c.self.inside.root c.args.row.now c.args.budget)) shape c.write_job.ensures.job)
    c.work_beside.ensures.seated c.work_beside.ensures.code c.work_beside.ensures.places c.work_beside.ensures.round.rope (beside_rested c.self.inside.scheduler c.work_beside.new.self c.self.inside.cores.items c.self.inside.root c.self.inside.live c.self.inside.round.rope c.self.invariant c.work_beside.ensures.seated c.work_beside.ensures.code c.work_beside.ensures.places c.work_beside.ensures.keeper c.work_beside.ensures.here c.work_beside.ensures.was_here c.work_beside.ensures.between c.work_beside.ensures.vacant c.work_beside.ensures.packets) c.work_beside.ensures.root c.work_beside.ensures.room c.work_beside.ensures.kind c.work_beside.ensures.replied c.write_outcome-outcome.result c.write_outcome-outcome.ensures.outcome live

pub work_beside-requires-clause-round : goal.work_beside-requires-clause-round
work_beside-requires-clause-round g c = record {
  next = c.self.inside.next_within;
  each = each_between c.self.inside.scheduler c.self.inside.cores.items c.self.inside.root c.self.inside.live c.self.inside.round.rope c.self.invariant c.self.inside.round.own.items c.self.inside.own_are;
  all = c.self.invariant.all;
}

pub work_beside-requires-clause-root : goal.work_beside-requires-clause-root
work_beside-requires-clause-root g c = c.self.invariant.root (subst (λ (h : Hosted). is_here h 0 ≡ true) (sym c.self.view_is) c.requires.here)

pub work_beside-requires-clause-packets : goal.work_beside-requires-clause-packets
work_beside-requires-clause-packets g c = c.self.invariant.packets (subst (λ (h : Hosted). is_here h 0 ≡ true) (sym c.self.view_is) c.requires.here)

pub returns-clause-runs : goal.returns-clause-runs
returns-clause-runs g c =
    let shape : plain_shape c.shape.result.now ≡ (code_in c.self.inside.scheduler).shape = ap plain_shape c.shape.ensures.same ∙ ap (λ (s : SchedulerState). (code_in s).shape) c.scheduler.view_is in
    let live : c.match-matches.live ≡ goes_on c.write_outcome-outcome.result = search rules in
    let copies = c.work_beside.new.packet.copies.items in
    let shape2 = ap plain_shape c.shape-2.ensures.same ∙ ap (λ (s : SchedulerState). (code_in s).shape) c.scheduler.view_is in
    subst (λ (h : Hosted). RunsTick (ticking h) (ticking (hosted c.work_beside.new.self c.self.inside.cores.items c.work_beside.new.packet c.match-matches.live c.work_beside.new.round.rope)) c.args.row.now c.args.budget c.write_outcome-outcome.result c.args.outputs.now c.write_outcome-outcome.new.outputs) c.self.view_is
    (ran c.self.inside.scheduler c.work_beside.new.self c.self.inside.cores.items c.self.inside.root c.work_beside.new.packet c.write_job.new.packet c.self.inside.live c.match-matches.live c.self.inside.round.rope c.work_beside.new.round.rope c.self.invariant (ap (λ (h : Hosted). h.live) c.self.view_is ∙ c.requires.can.live)
    c.args.row.now c.args.budget (subst (λ s. IsJob (plain_packet c.write_job.new.packet) (job_of s c.self.inside.root c.args.row.now c.args.budget)) shape c.write_job.ensures.job)
    c.work_beside.ensures.seated c.work_beside.ensures.code c.work_beside.ensures.places c.work_beside.ensures.round.rope (beside_rested c.self.inside.scheduler c.work_beside.new.self c.self.inside.cores.items c.self.inside.root c.self.inside.live c.self.inside.round.rope c.self.invariant c.work_beside.ensures.seated c.work_beside.ensures.code c.work_beside.ensures.places c.work_beside.ensures.keeper c.work_beside.ensures.here c.work_beside.ensures.was_here c.work_beside.ensures.between c.work_beside.ensures.vacant c.work_beside.ensures.packets) c.work_beside.ensures.root c.work_beside.ensures.room c.work_beside.ensures.kind c.work_beside.ensures.replied c.write_outcome-outcome.result c.write_outcome-outcome.ensures.outcome live
    c.args.outputs.now c.write_outcome-outcome.new.outputs (λ has. c.write_outcome-outcome.ensures.outputs has ∙ ap (λ (s : PlainShape). values_of (uses_in s.threads 0) copies s.outputs) shape2) c.write_outcome-outcome.ensures.stay)

pub returns-clause-same : goal.returns-clause-same
returns-clause-same g c =
    subst (λ (h : Hosted). IsSameHost h (hosted c.work_beside.new.self c.self.inside.cores.items c.work_beside.new.packet c.match-matches.live c.work_beside.new.round.rope)) c.self.view_is
    (record { code = c.work_beside.ensures.code; places = c.work_beside.ensures.places; cores = refl; grown = c.work_beside.ensures.grown; rope = c.work_beside.ensures.round.rope })

pub write_job-requires-clause-row : goal.write_job-requires-clause-row
write_job-requires-clause-row g c =
    let shape = ap plain_shape c.shape.ensures.same ∙ ap (λ (s : SchedulerState). (code_in s).shape) c.scheduler.view_is in
    c.requires.can.inputs ∙ ap (λ (h : Hosted). length (code_of h).shape.inputs) (sym c.self.view_is) ∙ ap (λ (s : PlainShape). length s.inputs) (sym shape)

pub write_outcome-outcome-requires-clause-outputs : goal.write_outcome-outcome-requires-clause-outputs
write_outcome-outcome-requires-clause-outputs g c =
    let shape2 = ap plain_shape c.shape-2.ensures.same ∙ ap (λ (s : SchedulerState). (code_in s).shape) c.scheduler.view_is in
    c.requires.can.outputs ∙ ap (λ (h : Hosted). length (code_of h).shape.outputs) (sym c.self.view_is) ∙ ap (λ (s : PlainShape). length s.outputs) (sym shape2)

pub work_beside-requires-clause-small : goal.work_beside-requires-clause-small
work_beside-requires-clause-small g c = subst (λ n. n ≤ MAX_BUDGET) (sym c.write_job.ensures.allowance) c.requires.can.small
