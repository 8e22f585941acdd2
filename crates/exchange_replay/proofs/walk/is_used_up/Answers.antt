use Rattle.std.proofs.Common.{sym, ◌∙◌, subst}
use Rattle.exchange_replay.specs.Tracks.{SaysUsed}
use Rattle.tick_jobs.proofs.Lists.{some_once}
use Rattle.exchange_replay.proofs.walk.is_used_up.Goals as goal

pub returns-in-Some-clause-some : goal.returns-in-Some-clause-some
returns-in-Some-clause-some c x at = subst (λ y. SaysUsed y c.is_used.result) (some_once c.in-Some.track x (sym c.in-Some.is ∙ at)) c.is_used.ensures
