use Rattle.core_seats.proofs.ServingLemmas.{HasMissedFirst}
use Rattle.core_seats.proofs.scheduler.Scheduler.serve_first.Given as goal

abbrev pub invariant-loop-i : goal.invariant-loop-i
invariant-loop-i g l = HasMissedFirst l.fn.self l.self l.mailboxes l.i
