use Rattle.std.proofs.Common.{sym, ap, subst}
use Rattle.core_machine.specs.Threads.{LeftByEvent}
use Rattle.core_seats.specs.Posts.{Mail}
use Rattle.core_seats.specs.Changes.{HasWorked}
use Rattle.core_seats.specs.Keeping.{SchedulerState, code_in}
use Rattle.tick_jobs.proofs.Forks.{replied_by}
use Rattle.core_seats.proofs.Advancing.{run_finished, run_fork, run_held, run_worked}
use Rattle.core_seats.proofs.scheduler.Scheduler.advance.Goals as goal

pub send_jobs-requires-clause-fork : goal.send_jobs-requires-clause-fork
send_jobs-requires-clause-fork g c = run_fork c.args.self.now c.requires.seated c.args.active c.requires.running c.deref_mut-thread.result.now c.deref_mut-thread.ensures.value c.self.inside.code.now (ap (λ (s : SchedulerState). s.code) c.self.view_is) c.run.new.self c.run.ensures.loaded c.run.ensures.number c.run.ensures.stands (subst (LeftByEvent c.run.new.self) c.in-Fork.is c.run.ensures.left) (c.run.ensures.branches c.in-Fork.is)

pub hold-requires-clause-held : goal.hold-requires-clause-held
hold-requires-clause-held g c = run_held c.args.self.now c.requires.seated c.args.active c.requires.running c.deref_mut-thread.result.now c.deref_mut-thread.ensures.value c.self.inside.code.now (ap (λ (s : SchedulerState). s.code) c.self.view_is) c.run.new.self c.run.ensures.loaded c.run.ensures.number c.run.ensures.stands (subst (LeftByEvent c.run.new.self) c.in-Fork.is c.run.ensures.left) (c.run.ensures.branches c.in-Fork.is) c.send_jobs.new.self c.send_jobs.ensures.moves c.send_jobs.ensures.told

pub returns-in-Fork-clause-worked : goal.returns-in-Fork-clause-worked
returns-in-Fork-clause-worked g c =
    subst (λ (mail : Mail). HasWorked (code_in c.args.self.now).shape c.args.self.now.mail mail c.args.active.mailbox) (sym c.hold.ensures.mail)
    (run_worked c.args.self.now c.requires.seated c.args.active c.requires.running c.deref_mut-thread.result.now c.deref_mut-thread.ensures.value c.self.inside.code.now (ap (λ (s : SchedulerState). s.code) c.self.view_is) c.run.new.self c.run.ensures.loaded c.run.ensures.number c.run.ensures.stands (subst (LeftByEvent c.run.new.self) c.in-Fork.is c.run.ensures.left) (c.run.ensures.branches c.in-Fork.is) c.send_jobs.new.self c.send_jobs.ensures.moves c.send_jobs.ensures.told)

pub finish_job-requires : goal.finish_job-requires
finish_job-requires g c = record {
  seated = c.requires.seated;
  finished = run_finished c.args.self.now c.requires.seated c.args.active c.requires.running c.deref_mut-thread.result.now c.deref_mut-thread.ensures.value c.self.inside.code.now (ap (λ (s : SchedulerState). s.code) c.self.view_is) c.run.new.self c.run.ensures.loaded c.run.ensures.number c.run.ensures.stands (replied_by c.run.new.self c.run.result c.run.ensures.left c.in_default.not-Fork);
}
