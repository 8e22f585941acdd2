-- A thread at a job.
use Rattle.std.specs.Prelude.{◌≡◌, List, []}
use Rattle.forec_kernel.specs.Engine.{Job}
use Rattle.core_machine.specs.declared.thread.Thread.{Thread}
use Rattle.core_seats.specs.Done.{InJob}
use Rattle.core_seats.specs.Keeping.{SchedulerState, code_in}

-- it has begun the job, and has come to no fork in it
pub record HasFollowed (s : SchedulerState) (h : Thread) : Type 0 where
  pub jobs : List Job
  pub job : Job
  pub in_job : InJob (code_in s) h s.mail jobs job
  pub first : in_job.log.before ≡ []

-- a thread that was at a job, after these jobs, still is, or has done it
abbrev pub StaysInJob : SchedulerState → Thread → SchedulerState → Thread → Type 0
StaysInJob a h b h1 = (jobs : List Job) (job : Job) → InJob (code_in a) h a.mail jobs job → InJob (code_in a) h1 b.mail jobs job
