use Rattle.std.proofs.Common.{◌≡◌, List}
use Rattle.forec_kernel.specs.Engine.{Job}
use Rattle.core_machine.specs.Threads.{Loaded, CanRun}
use Rattle.core_seats.specs.Keeping.{code_in}
use Rattle.core_seats.specs.Rounds.{IsSameRound}
use Rattle.core_seats.specs.OnJob.{IsOnJob}
use Rattle.core_seats.specs.Serving.{KeepsOthers}
use Rattle.core_seats.proofs.scheduler.Scheduler.finish_beside.Given as goal

abbrev pub invariant-loop : goal.invariant-loop
invariant-loop g l = record {
  others : g.O.Serve.kept l.others ≡ g.O.Serve.kept l.fn.others;
  keeps : KeepsOthers l.fn.self l.self;
  round : IsSameRound l.fn.round l.round;
  root : l.thread.number ≡ 0;
  loaded : Loaded (code_in l.self) l.thread;
  running : CanRun l.thread;
  done : (jobs : List Job) (job : Job) → IsOnJob l.fn.self l.fn.thread jobs job → IsOnJob l.self l.thread jobs job;
}
