use Rattle.core_seats.proofs.Holding.{hold_between, hold_touches}
use Rattle.core_seats.proofs.scheduler.Scheduler.hold.Goals as goal

pub returns-clause-touches : goal.returns-clause-touches
returns-clause-touches g c = hold_touches c.args.self.now c.requires.seated c.args.active c.requires.held c.put_thread.new.self c.put_thread.ensures

pub returns-clause-between : goal.returns-clause-between
returns-clause-between g c = hold_between c.args.self.now c.requires.seated c.args.active c.requires.held c.put_thread.new.self c.put_thread.ensures
