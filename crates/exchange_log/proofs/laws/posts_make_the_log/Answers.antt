use Rattle.exchange_log.proofs.PostedLemmas.{posted_is_logged, ticks_are_logged}
use Rattle.exchange_log.proofs.laws.posts_make_the_log.Goals as goal

pub returns-clause-jobs : goal.returns-clause-jobs
returns-clause-jobs c = posted_is_logged

pub returns-clause-ticks : goal.returns-clause-ticks
returns-clause-ticks c = ticks_are_logged
