use Rattle.std.proofs.Common.{ap}
use Rattle.core_seats.specs.Keeping.{SchedulerState}
use Rattle.core_seats.proofs.Advancing.{finish_replies, finish_touches, finish_between, finish_gains}
use Rattle.core_seats.proofs.scheduler.Scheduler.finish_job.Goals as goal

pub answer-requires-clause-replies : goal.answer-requires-clause-replies
answer-requires-clause-replies g c = finish_replies c.args.self.now c.requires.seated c.args.active c.requires.finished c.deref.result.now c.deref.ensures c.self.inside.code.now (ap (λ (s : SchedulerState). s.code) c.self.view_is) c.reply.new.packet c.reply.ensures.room c.reply.ensures.kind c.reply.ensures.gives c.seat_thread.new.self c.seat_thread.ensures

pub returns-clause-touches : goal.returns-clause-touches
returns-clause-touches g c = finish_touches c.args.self.now c.requires.seated c.args.active c.requires.finished c.deref.result.now c.deref.ensures c.self.inside.code.now (ap (λ (s : SchedulerState). s.code) c.self.view_is) c.reply.new.packet c.reply.ensures.room c.reply.ensures.kind c.reply.ensures.gives c.seat_thread.new.self c.seat_thread.ensures c.answer.new.self c.answer.ensures

pub returns-clause-between : goal.returns-clause-between
returns-clause-between g c = finish_between c.args.self.now c.requires.seated c.args.active c.requires.finished c.deref.result.now c.deref.ensures c.self.inside.code.now (ap (λ (s : SchedulerState). s.code) c.self.view_is) c.reply.new.packet c.reply.ensures.room c.reply.ensures.kind c.reply.ensures.gives c.seat_thread.new.self c.seat_thread.ensures c.answer.new.self c.answer.ensures

pub returns-clause-replied : goal.returns-clause-replied
returns-clause-replied g c = finish_gains c.args.self.now c.requires.seated c.args.active c.requires.finished c.deref.result.now c.deref.ensures c.self.inside.code.now (ap (λ (s : SchedulerState). s.code) c.self.view_is) c.reply.new.packet c.reply.ensures.room c.reply.ensures.kind c.reply.ensures.gives c.seat_thread.new.self c.seat_thread.ensures c.answer.new.self c.answer.ensures
