use Rattle.core_seats.specs.Rounds.{IsSameRound}
use Rattle.core_seats.specs.Serving.{KeepsServing}
use Rattle.core_seats.proofs.Sweeping.{HasSwept}
use Rattle.core_seats.proofs.scheduler.Scheduler.sweep.Given as goal

abbrev pub invariant-loop-k : goal.invariant-loop-k
invariant-loop-k g l = record { keeps : KeepsServing l.fn.self l.self; round : IsSameRound l.fn.round l.round; swept : HasSwept l.fn.round.own.items l.fn.self l.self l.found l.fn.round.up l.k }
