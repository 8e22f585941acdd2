use Rattle.core_seats.specs.Rounds.{IsSameRound}
use Rattle.core_seats.specs.Serving.{KeepsServing}
use Rattle.core_seats.proofs.Sweeping.{HasFound}
use Rattle.core_seats.proofs.scheduler.Scheduler.serve_hinted.Given as goal

abbrev pub invariant-loop : goal.invariant-loop
invariant-loop g l = record { keeps : KeepsServing l.fn.self l.self; round : IsSameRound l.fn.round l.round; found : HasFound l.fn.round.own.items l.fn.self l.self l.found }
