use Rattle.std.proofs.Common.{subst}
use Rattle.log_writing.specs.Logging.{LogsItsTicks}
use Rattle.log_runs.proofs.RunLemmas.{its_ticks}
use Rattle.log_runs.proofs.logging.logs_its_ticks.Goals as goal

pub returns : goal.returns
returns c =
    subst LogsItsTicks c.ticker.view_is
    (its_ticks c.ticker.inside.host c.posts.ensures.port c.ticker.invariant.whole c.posts.ensures.root c.posts.ensures.taken c.posts_make_the_log.ensures.ticks)
