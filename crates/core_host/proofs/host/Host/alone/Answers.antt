use Rattle.std.proofs.Common.{rules, ◌≡◌, ◌<◌, ◌≤◌, true, length, refl, sym, ap, ◌∙◌, subst, arith}
use Rattle.forec_base.specs.declared.limits.TheConstants.{MAX_BUDGET}
use Rattle.forec_kernel.specs.Shapes.{PlainShape, plain_shape}
use Rattle.forec_kernel.specs.Texts.{uses_in}
use Rattle.forec_kernel.specs.Ticks.{goes_on, values_of}
use Rattle.forec_kernel.specs.Packed.{IsJob}
use Rattle.thread_code.specs.declared.instruction.CodeParts.{CodeParts}
use Rattle.thread_code.specs.Plain.{plain_code}
use Rattle.combine_tree.specs.Plain.{plain_packet}
use Rattle.core_machine.specs.Threads.{CanBegin}
use Rattle.tick_jobs.specs.Jobs.{job_of}
use Rattle.core_seats.specs.Keeping.{SchedulerState, code_in}
use Rattle.core_host.specs.Hosted.{Hosted, hosted, code_of, IsSameHost, IsWhole}
use Rattle.core_host.specs.Runs.{ticking}
use Rattle.tick_jobs.specs.Ticks.{RunsTick}
use Rattle.core_seats.specs.Loads.{is_on}
use Rattle.core_host.proofs.HostedLemmas.{hosted_seated}
use Rattle.core_host.proofs.TickRun.{whole_here, quiet_rested, is_between, can_begin, now_hosted, ran}
use Rattle.tick_jobs.proofs.Readiness.{replied_of}
use Rattle.core_seats.proofs.RoundLemmas.{rope_same}
use Rattle.core_host.proofs.host.Host.alone.Goals as goal

pub write_job-requires-clause-between : goal.write_job-requires-clause-between
write_job-requires-clause-between g c = is_between (hosted c.self.inside.scheduler c.self.inside.cores.items c.self.inside.root c.self.inside.live c.self.inside.round.rope) c.self.invariant (whole_here (hosted c.self.inside.scheduler c.self.inside.cores.items c.self.inside.root c.self.inside.live c.self.inside.round.rope) c.self.invariant (subst IsWhole (sym c.self.view_is) c.requires.whole)) (ap (λ (h : Hosted). h.live) c.self.view_is ∙ c.requires.can.live)

pub work-requires-clause-job : goal.work-requires-clause-job
work-requires-clause-job g c t sits =
    subst (CanBegin t) (sym c.write_job.ensures.kind) (can_begin (hosted c.self.inside.scheduler c.self.inside.cores.items c.self.inside.root c.self.inside.live c.self.inside.round.rope) c.self.invariant (whole_here (hosted c.self.inside.scheduler c.self.inside.cores.items c.self.inside.root c.self.inside.live c.self.inside.round.rope) c.self.invariant (subst IsWhole (sym c.self.view_is) c.requires.whole)) (ap (λ (h : Hosted). h.live) c.self.view_is ∙ c.requires.can.live) t sits)

pub write_outcome-outcome-requires-clause-replied : goal.write_outcome-outcome-requires-clause-replied
write_outcome-outcome-requires-clause-replied g c =
    let root = c.work.ensures.root in replied_of root.thread c.work.new.packet.kind (c.work.ensures.kind root.thread root.sits)

pub invariant_of-self : goal.invariant_of-self
invariant_of-self g c =
    let shape : plain_shape c.shape.result.now ≡ (code_in c.self.inside.scheduler).shape = ap plain_shape c.shape.ensures.same ∙ ap (λ (s : SchedulerState). (code_in s).shape) c.scheduler.view_is in
    let live : c.match-matches.live ≡ goes_on c.write_outcome-outcome.result = search rules in
    now_hosted c.self.inside.scheduler c.work.new.self c.self.inside.cores.items c.self.inside.root c.work.new.packet c.write_job.new.packet c.self.inside.live c.match-matches.live c.self.inside.round.rope c.self.inside.round.rope c.self.invariant (ap (λ (h : Hosted). h.live) c.self.view_is ∙ c.requires.can.live)
    c.args.row.now c.args.budget (subst (λ s. IsJob (plain_packet c.write_job.new.packet) (job_of s c.self.inside.root c.args.row.now c.args.budget)) shape c.write_job.ensures.job)
    c.work.ensures.fitted.seated c.work.ensures.code c.work.ensures.places (rope_same c.self.inside.round.rope) (quiet_rested c.self.inside.scheduler c.work.new.self c.self.inside.cores.items c.self.inside.root c.self.inside.live c.self.inside.round.rope c.self.invariant c.work.ensures.places c.work.ensures.keeper c.work.ensures.quiet) c.work.ensures.root c.work.ensures.room c.work.ensures.kind c.work.ensures.replied c.write_outcome-outcome.result c.write_outcome-outcome.ensures.outcome live

pub returns-clause-rest : goal.returns-clause-rest
returns-clause-rest g c k lt = (c.work.ensures.quiet k (omega arith) lt).idle.child

pub returns-clause-taken : goal.returns-clause-taken
returns-clause-taken g c k lt = (c.work.ensures.quiet k (omega arith) lt).all

pub work-requires-clause-fitted : goal.work-requires-clause-fitted
work-requires-clause-fitted g c =
    let h = hosted c.self.inside.scheduler c.self.inside.cores.items c.self.inside.root c.self.inside.live c.self.inside.round.rope in
    let whole = subst IsWhole (sym c.self.view_is) c.requires.whole in
    record { seated = hosted_seated c.self.inside.scheduler c.self.inside.cores.items c.self.inside.root c.self.inside.live c.self.inside.round.rope c.self.invariant; tells = whole.tells }

pub work-requires-clause-quiet : goal.work-requires-clause-quiet
work-requires-clause-quiet g c k from lt = (subst IsWhole (sym c.self.view_is) c.requires.whole).quiet k lt

pub returns-clause-whole : goal.returns-clause-whole
returns-clause-whole g c =
    let whole = subst IsWhole (sym c.self.view_is) c.requires.whole in
    record {
      tells = c.work.ensures.fitted.tells;
      all = λ t lt.
          ap (λ l. is_on l c.self.inside.cores.items t) c.work.ensures.places
          ∙ whole.all t (subst (λ (x : CodeParts). t < length (plain_code x).threads) c.work.ensures.code lt);
      quiet = λ k lt. c.work.ensures.quiet k (omega arith) lt;
    }

pub returns-clause-runs : goal.returns-clause-runs
returns-clause-runs g c =
    let shape : plain_shape c.shape.result.now ≡ (code_in c.self.inside.scheduler).shape = ap plain_shape c.shape.ensures.same ∙ ap (λ (s : SchedulerState). (code_in s).shape) c.scheduler.view_is in
    let live : c.match-matches.live ≡ goes_on c.write_outcome-outcome.result = search rules in
    let copies = c.work.new.packet.copies.items in
    let shape2 = ap plain_shape c.shape-2.ensures.same ∙ ap (λ (s : SchedulerState). (code_in s).shape) c.scheduler.view_is in
    subst (λ (h : Hosted). RunsTick (ticking h) (ticking (hosted c.work.new.self c.self.inside.cores.items c.work.new.packet c.match-matches.live c.self.inside.round.rope)) c.args.row.now c.args.budget c.write_outcome-outcome.result c.args.outputs.now c.write_outcome-outcome.new.outputs) c.self.view_is
    (ran c.self.inside.scheduler c.work.new.self c.self.inside.cores.items c.self.inside.root c.work.new.packet c.write_job.new.packet c.self.inside.live c.match-matches.live c.self.inside.round.rope c.self.inside.round.rope c.self.invariant (ap (λ (h : Hosted). h.live) c.self.view_is ∙ c.requires.can.live)
    c.args.row.now c.args.budget (subst (λ s. IsJob (plain_packet c.write_job.new.packet) (job_of s c.self.inside.root c.args.row.now c.args.budget)) shape c.write_job.ensures.job)
    c.work.ensures.fitted.seated c.work.ensures.code c.work.ensures.places (rope_same c.self.inside.round.rope) (quiet_rested c.self.inside.scheduler c.work.new.self c.self.inside.cores.items c.self.inside.root c.self.inside.live c.self.inside.round.rope c.self.invariant c.work.ensures.places c.work.ensures.keeper c.work.ensures.quiet) c.work.ensures.root c.work.ensures.room c.work.ensures.kind c.work.ensures.replied c.write_outcome-outcome.result c.write_outcome-outcome.ensures.outcome live
    c.args.outputs.now c.write_outcome-outcome.new.outputs (λ has. c.write_outcome-outcome.ensures.outputs has ∙ ap (λ (s : PlainShape). values_of (uses_in s.threads 0) copies s.outputs) shape2) c.write_outcome-outcome.ensures.stay)

pub returns-clause-same : goal.returns-clause-same
returns-clause-same g c =
    subst (λ (h : Hosted). IsSameHost h (hosted c.work.new.self c.self.inside.cores.items c.work.new.packet c.match-matches.live c.self.inside.round.rope)) c.self.view_is
    (record { code = c.work.ensures.code; places = c.work.ensures.places; cores = refl; grown = c.work.ensures.grown; rope = rope_same c.self.inside.round.rope })

pub write_job-requires-clause-row : goal.write_job-requires-clause-row
write_job-requires-clause-row g c =
    let shape = ap plain_shape c.shape.ensures.same ∙ ap (λ (s : SchedulerState). (code_in s).shape) c.scheduler.view_is in
    c.requires.can.inputs ∙ ap (λ (h : Hosted). length (code_of h).shape.inputs) (sym c.self.view_is) ∙ ap (λ (s : PlainShape). length s.inputs) (sym shape)

pub write_outcome-outcome-requires-clause-outputs : goal.write_outcome-outcome-requires-clause-outputs
write_outcome-outcome-requires-clause-outputs g c =
    let shape2 = ap plain_shape c.shape-2.ensures.same ∙ ap (λ (s : SchedulerState). (code_in s).shape) c.scheduler.view_is in
    c.requires.can.outputs ∙ ap (λ (h : Hosted). length (code_of h).shape.outputs) (sym c.self.view_is) ∙ ap (λ (s : PlainShape). length s.outputs) (sym shape2)

pub work-requires-clause-small : goal.work-requires-clause-small
work-requires-clause-small g c = subst (λ n. n ≤ MAX_BUDGET) (sym c.write_job.ensures.allowance) c.requires.can.small
