use Rattle.std.proofs.Common.{◌≡◌, true, refl, sym, ap, ◌∙◌, subst}
use Rattle.copy_slots.specs.Ports.{after_stop}
use Rattle.core_seats.specs.Changes.{Grown}
use Rattle.core_seats.specs.Keeping.{SchedulerState}
use Rattle.core_seats.specs.Serving.{KeepsServing}
use Rattle.core_host.specs.Hosted.{Hosted, hosted, is_here}
use Rattle.core_host.specs.Runs.{HasJobs, HostHasRun}
use Rattle.core_seats.proofs.Mails.{extends_same}
use Rattle.core_seats.proofs.ServingLemmas.{keeps_watch}
use Rattle.core_seats.proofs.RoundLemmas.{rope_same}
use Rattle.core_host.proofs.HostedLemmas.{jobs_keep, run_keeps, served_hosted}
use Rattle.core_host.proofs.host.Host.stop.Goals as goal

pub stop-requires : goal.stop-requires
stop-requires g c = c.self.invariant.keeper (subst (λ (h : Hosted). is_here h 0 ≡ true) (sym c.self.view_is) c.requires)

pub invariant_of-self : goal.invariant_of-self
invariant_of-self g c = served_hosted c.self.inside.scheduler c.stop.new.self c.self.inside.cores.items c.self.inside.root c.self.inside.live c.self.inside.round.rope c.self.inside.round.rope (subst (KeepsServing c.self.inside.scheduler) (sym c.stop.ensures) (keeps_watch c.self.inside.scheduler true c.self.inside.scheduler.mail.stops (extends_same _ _ refl))) c.self.invariant (rope_same c.self.inside.round.rope)

pub returns-clause-stored : goal.returns-clause-stored
returns-clause-stored g c =
    ap (λ (s : SchedulerState). hosted s c.self.inside.cores.items c.self.inside.root c.self.inside.live c.self.inside.round.rope) c.stop.ensures ∙ ap (λ (h : Hosted). record h { mail = after_stop h.mail }) c.self.view_is

pub returns-clause-grown : goal.returns-clause-grown
returns-clause-grown g c = subst (λ (h : Hosted). Grown h.mail c.stop.new.self.mail) c.self.view_is (subst (KeepsServing c.self.inside.scheduler) (sym c.stop.ensures) (keeps_watch c.self.inside.scheduler true c.self.inside.scheduler.mail.stops (extends_same _ _ refl))).grown

pub returns-clause-turns : goal.returns-clause-turns
returns-clause-turns g c turns run = run_keeps c.self.inside.scheduler c.stop.new.self c.self.inside.cores.items c.self.inside.root c.self.inside.live c.self.inside.round.rope c.self.inside.round.rope (subst (KeepsServing c.self.inside.scheduler) (sym c.stop.ensures) (keeps_watch c.self.inside.scheduler true c.self.inside.scheduler.mail.stops (extends_same _ _ refl))) turns (subst (λ (h : Hosted). HostHasRun h turns) (sym c.self.view_is) run)

pub returns-clause-jobs : goal.returns-clause-jobs
returns-clause-jobs g c jobs old = jobs_keep c.self.inside.scheduler c.stop.new.self c.self.inside.cores.items c.self.inside.root c.self.inside.live c.self.inside.round.rope c.self.inside.round.rope (subst (KeepsServing c.self.inside.scheduler) (sym c.stop.ensures) (keeps_watch c.self.inside.scheduler true c.self.inside.scheduler.mail.stops (extends_same _ _ refl))) jobs (subst (λ (h : Hosted). HasJobs h jobs) (sym c.self.view_is) old)
