use Rattle.std.proofs.Common.{min, ap, subst, ◌∙◌}
use Rattle.core_seats.specs.Posts.{Mail}
use Rattle.exchange_log.specs.Notes.{most_counted}
use Rattle.exchange_log.specs.Kept.{Logging, KeepsMail}
use Rattle.exchange_log.proofs.WordLemmas.{words_are}
use Rattle.exchange_log.proofs.port.LogPort.needed.Goals as goal

pub returns-clause-log : goal.returns-clause-log
returns-clause-log g c answered =
    let kept = subst (λ (m : Mail). KeepsMail m c.self.inside.book) (ap (λ (l : Logging). l.mail) c.self.view_is) c.self.invariant in
    kept.needed ∙ ap (λ n. min n most_counted) (words_are c.args.self.now.mail c.self.inside.book kept answered)
