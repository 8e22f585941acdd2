use Rattle.std.proofs.Common.{◌-◌, length}
use Rattle.core_seats.proofs.SendJobs.{HasSentFirst}
use Rattle.core_seats.proofs.scheduler.Scheduler.send_jobs.Given as goal

abbrev pub invariant-loop-branch : goal.invariant-loop-branch
invariant-loop-branch g l = HasSentFirst l.fn.self l.self l.fn.thread l.k

abbrev pub decreases-loop-branch : goal.decreases-loop-branch
decreases-loop-branch g l = length l.fn.thread.branches.numbers - l.k
