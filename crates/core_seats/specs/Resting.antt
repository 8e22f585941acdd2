-- Thread 0 between ticks.
use Rattle.std.specs.Prelude.{List}
use Rattle.forec_kernel.specs.Engine.{Job}
use Rattle.core_machine.specs.declared.thread.Thread.{Thread}
use Rattle.core_machine.specs.Threads.{IsResting}
use Rattle.core_seats.specs.Done.{HasDone}
use Rattle.core_seats.specs.Keeping.{SchedulerState, code_in, Sits}

-- thread 0 rests, and has replied to the jobs of some ticks
pub record RootRests (s : SchedulerState) : Type 0 where
  pub thread : Thread
  pub sits : Sits s 0 thread
  pub resting : IsResting thread
  pub jobs : List Job
  pub done : HasDone (code_in s) thread s.mail jobs
