use Rattle.std.proofs.Common.{[], ◌∷◌, ◌++◌, refl, sym, ap, ◌∙◌, subst}
use Rattle.copy_slots.specs.Ports.{stop_word, after_check}
use Rattle.core_seats.specs.Changes.{Grown}
use Rattle.core_seats.specs.Keeping.{SchedulerState}
use Rattle.core_seats.specs.Serving.{KeepsServing}
use Rattle.core_host.specs.Hosted.{Hosted, hosted}
use Rattle.core_seats.proofs.Mails.{extends_one}
use Rattle.core_seats.proofs.ServingLemmas.{keeps_watch}
use Rattle.core_seats.proofs.RoundLemmas.{rope_same}
use Rattle.core_host.proofs.HostedLemmas.{served_hosted}
use Rattle.core_host.proofs.host.Host.stopped.Goals as goal

pub invariant_of-self : goal.invariant_of-self
invariant_of-self g c = served_hosted c.self.inside.scheduler c.stopped.new.self c.self.inside.cores.items c.self.inside.root c.self.inside.live c.self.inside.round.rope c.self.inside.round.rope (subst (KeepsServing c.self.inside.scheduler) (sym c.stopped.ensures) (keeps_watch c.self.inside.scheduler c.self.inside.scheduler.mail.stored (c.self.inside.scheduler.mail.stops ++ stop_word c.stopped.result ∷ []) (extends_one _ _ (stop_word c.stopped.result) refl))) c.self.invariant (rope_same c.self.inside.round.rope)

pub returns-clause-loaded : goal.returns-clause-loaded
returns-clause-loaded g c =
    ap (λ (s : SchedulerState). hosted s c.self.inside.cores.items c.self.inside.root c.self.inside.live c.self.inside.round.rope) c.stopped.ensures ∙ ap (λ (h : Hosted). record h { mail = after_check c.stopped.result h.mail }) c.self.view_is

pub returns-clause-grown : goal.returns-clause-grown
returns-clause-grown g c = subst (λ (h : Hosted). Grown h.mail c.stopped.new.self.mail) c.self.view_is (subst (KeepsServing c.self.inside.scheduler) (sym c.stopped.ensures) (keeps_watch c.self.inside.scheduler c.self.inside.scheduler.mail.stored (c.self.inside.scheduler.mail.stops ++ stop_word c.stopped.result ∷ []) (extends_one _ _ (stop_word c.stopped.result) refl))).grown
