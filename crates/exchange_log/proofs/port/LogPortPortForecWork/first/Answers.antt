use Rattle.std.proofs.Common.{refl, sym, subst}
use Rattle.core_seats.specs.Posts.{Mail}
use Rattle.copy_slots.specs.Mail.{sender_opened}
use Rattle.exchange_log.specs.Kept.{KeepsMail, code_in_mail}
use Rattle.exchange_log.proofs.KeptLemmas.{kept_looks}
use Rattle.exchange_log.proofs.port.LogPortPortForecWork.first.Goals as goal

pub invariant_of-self : goal.invariant_of-self
invariant_of-self g c =
    let old = g.P.Port.state c.self.inside.port in
    subst (λ (m : Mail). KeepsMail m c.self.inside.book) (sym c.first.ensures.state)
    (kept_looks (code_in_mail old) old.ends c.args.k c.self.inside.book sender_opened (λ x. refl) (λ x. refl) c.self.invariant)
