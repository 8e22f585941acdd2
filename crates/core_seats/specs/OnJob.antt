-- Thread 0 is at the job of a tick, while other threads are served.
use Rattle.std.specs.Prelude.{List, []}
use Rattle.forec_kernel.specs.Engine.{Job}
use Rattle.core_machine.specs.declared.thread.Thread.{Thread}
use Rattle.core_machine.specs.Threads.{StandsFor}
use Rattle.tick_jobs.specs.Writing.{Log, heard, told}
use Rattle.core_seats.specs.Keeping.{SchedulerState, code_in}
use Rattle.core_seats.specs.Waiting.{HasTold}

-- the thread has done these jobs, and is at this one; no job of its branches is out
pub record IsOnJob (s : SchedulerState) (h : Thread) (jobs : List Job) (job : Job) : Type 0 where
  pub log : Log (code_in s) h.number jobs job
  pub stands : StandsFor (code_in s) h (heard (code_in s) h.number jobs job log)
  pub told : HasTold s h.number (told (code_in s) h.number jobs job log) []
