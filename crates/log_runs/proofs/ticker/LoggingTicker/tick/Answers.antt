use Rattle.std.proofs.Common.{◌∙◌}
use Rattle.log_runs.proofs.ticker.LoggingTicker.tick.Goals as goal

pub invariant_of-self : goal.invariant_of-self
invariant_of-self g c =
    let i = c.self.invariant in
    record { same = c.alone.ensures.same.code ∙ i.same; whole = c.alone.ensures.whole; given = _; jobs = c.alone.ensures.runs.jobs i.given i.jobs }
