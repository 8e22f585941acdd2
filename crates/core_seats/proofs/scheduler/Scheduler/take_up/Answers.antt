use Rattle.std.proofs.Common.{◌+◌, sym, ap, ◌∙◌}
use Rattle.std.specs.Prelude.{slice_index_or}
use Rattle.core_seats.specs.Keeping.{SchedulerState}
use Rattle.core_seats.proofs.ServingLemmas.{it_waits, it_rests, quiet_waits}
use Rattle.core_seats.proofs.scheduler.Scheduler.take_up.Goals as goal

pub take_job-requires-clause-rests : goal.take_job-requires-clause-rests
take_job-requires-clause-rests g c = it_rests c.args.self.now c.args.mailbox c.index.result.now (c.index.ensures ∙ ap (λ (s : SchedulerState). slice_index_or s.seats (c.args.mailbox + 1) c.index.result.now) c.self.view_is) c.requires.between (sym c.is_some.ensures ∙ c.if-is_some.false)

pub returns-then-is_some-clause-quiet : goal.returns-then-is_some-clause-quiet
returns-then-is_some-clause-quiet g c tells quiet = absurd (quiet_waits c.args.self.now c.args.mailbox quiet (it_waits c.args.self.now c.args.mailbox c.index.result.now (c.index.ensures ∙ ap (λ (s : SchedulerState). slice_index_or s.seats (c.args.mailbox + 1) c.index.result.now) c.self.view_is) c.requires.between (sym c.is_some.ensures ∙ c.if-is_some.true)))

pub returns-then-is_some-clause-missed : goal.returns-then-is_some-clause-missed
returns-then-is_some-clause-missed g c tells quiet = absurd (quiet_waits c.args.self.now c.args.mailbox quiet (it_waits c.args.self.now c.args.mailbox c.index.result.now (c.index.ensures ∙ ap (λ (s : SchedulerState). slice_index_or s.seats (c.args.mailbox + 1) c.index.result.now) c.self.view_is) c.requires.between (sym c.is_some.ensures ∙ c.if-is_some.true)))
