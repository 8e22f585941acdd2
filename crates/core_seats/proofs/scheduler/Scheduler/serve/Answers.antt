use Rattle.std.proofs.Common.{subst}
use Rattle.thread_code.specs.declared.instruction.CodeParts.{CodeParts}
use Rattle.thread_code.specs.Plain.{plain_code}
use Rattle.core_seats.specs.Changes.{HasWorked}
use Rattle.core_seats.specs.Keeping.{code_in}
use Rattle.core_seats.specs.Serving.{Touches}
use Rattle.core_seats.proofs.Beginning.{touches_then, worked_from}
use Rattle.core_seats.proofs.scheduler.Scheduler.serve.Goals as goal

pub returns-in-Some-clause-touches : goal.returns-in-Some-clause-touches
returns-in-Some-clause-touches g c =
    touches_then c.args.mailbox c.args.self.now c.take_up.new.self c.advance.new.self c.take_up.ensures.touches
    (subst (λ k. Touches k c.take_up.new.self c.advance.new.self) c.in-Some.ensures.running.0 c.advance.ensures.touches)

pub returns-in-Some-clause-worked : goal.returns-in-Some-clause-worked
returns-in-Some-clause-worked g c _ =
    let first = c.take_up.ensures.touches in
    worked_from (code_in c.args.self.now).shape c.args.self.now.mail c.take_up.new.self.mail c.advance.new.self.mail c.args.mailbox first.grown c.take_up.ensures.answered
    (subst (λ k. HasWorked (code_in c.args.self.now).shape c.take_up.new.self.mail c.advance.new.self.mail k) c.in-Some.ensures.running.0
    (subst (λ (x : CodeParts). HasWorked (plain_code x).shape c.take_up.new.self.mail c.advance.new.self.mail c.in-Some.active.mailbox) first.code c.advance.ensures.worked))
