use Rattle.std.proofs.Common.{sym, subst}
use Rattle.core_seats.specs.Posts.{Mail}
use Rattle.exchange_log.specs.Kept.{KeepsMail, code_in_mail}
use Rattle.exchange_log.proofs.KeptLemmas.{kept_child}
use Rattle.exchange_log.proofs.port.LogPortPortForecWork.answer.Goals as goal

pub invariant_of-self : goal.invariant_of-self
invariant_of-self g c =
    let old = g.P.Port.state c.self.inside.port in
    subst (λ (m : Mail). KeepsMail m c.self.inside.book) (sym c.answer.ensures) (kept_child (code_in_mail old) old.ends c.args.k c.self.inside.book _ c.self.invariant)
