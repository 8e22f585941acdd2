use Rattle.core_seats.proofs.scheduler.Scheduler.has_reply.Goals as goal

pub returns-clause-there : goal.returns-clause-there
returns-clause-there g c result empty = c.collect.ensures.there result
