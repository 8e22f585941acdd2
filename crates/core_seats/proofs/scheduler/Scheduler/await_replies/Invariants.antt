use Rattle.std.proofs.Common.{◌≡◌, List}
use Rattle.forec_kernel.specs.Engine.{Answered}
use Rattle.core_seats.specs.Waiting.{IsGathering}
use Rattle.core_seats.specs.Rounds.{IsSameRound}
use Rattle.core_seats.specs.Serving.{KeepsOthers}
use Rattle.core_seats.proofs.scheduler.Scheduler.await_replies.Given as goal

abbrev pub invariant-loop : goal.invariant-loop
invariant-loop g l = record {
  others : g.O.Serve.kept l.others ≡ g.O.Serve.kept l.fn.others;
  keeps : KeepsOthers l.fn.self l.self;
  round : IsSameRound l.fn.round l.round;
  gathering : (pairs : List Answered) → IsGathering l.fn.self l.thread pairs → IsGathering l.self l.thread pairs;
}
