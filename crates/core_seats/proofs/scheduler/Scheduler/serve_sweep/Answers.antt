use Rattle.std.proofs.Common.{subst}
use Rattle.core_seats.specs.Rounds.{SomeWorked, AllIdle}
use Rattle.core_seats.proofs.ServingLemmas.{keeps_then, keeps_seated}
use Rattle.core_seats.proofs.RoundLemmas.{round_then, round_still}
use Rattle.core_seats.proofs.Sweeping.{some_then, some_from, idle_after}
use Rattle.core_seats.proofs.scheduler.Scheduler.serve_sweep.Goals as goal

pub sweep-swept-requires-clause-seated : goal.sweep-swept-requires-clause-seated
sweep-swept-requires-clause-seated g c = keeps_seated c.args.self.now c.serve_hinted-hinted.new.self c.serve_hinted-hinted.ensures.keeps c.requires.seated

pub sweep-swept-requires-clause-round : goal.sweep-swept-requires-clause-round
sweep-swept-requires-clause-round g c = round_still c.args.self.now c.serve_hinted-hinted.new.self c.args.round.now c.serve_hinted-hinted.new.round c.serve_hinted-hinted.ensures.keeps c.serve_hinted-hinted.ensures.round c.requires.round

pub returns-then-hinted-clause-keeps : goal.returns-then-hinted-clause-keeps
returns-then-hinted-clause-keeps g c = keeps_then c.args.self.now c.serve_hinted-hinted.new.self c.sweep-swept.new.self c.serve_hinted-hinted.ensures.keeps c.sweep-swept.ensures.keeps

pub returns-then-hinted-clause-round : goal.returns-then-hinted-clause-round
returns-then-hinted-clause-round g c = round_then c.args.round.now c.serve_hinted-hinted.new.round c.sweep-swept.new.round c.serve_hinted-hinted.ensures.round c.sweep-swept.ensures.round

pub returns-else-hinted-clause-keeps : goal.returns-else-hinted-clause-keeps
returns-else-hinted-clause-keeps g c = keeps_then c.args.self.now c.serve_hinted-hinted.new.self c.sweep-swept.new.self c.serve_hinted-hinted.ensures.keeps c.sweep-swept.ensures.keeps

pub returns-else-hinted-clause-round : goal.returns-else-hinted-clause-round
returns-else-hinted-clause-round g c = round_then c.args.round.now c.serve_hinted-hinted.new.round c.sweep-swept.new.round c.serve_hinted-hinted.ensures.round c.sweep-swept.ensures.round

pub returns-then-hinted-clause-worked : goal.returns-then-hinted-clause-worked
returns-then-hinted-clause-worked g c e =
    some_then c.args.round.now.own.items c.args.self.now c.serve_hinted-hinted.new.self c.sweep-swept.new.self (c.serve_hinted-hinted.ensures.worked e) c.sweep-swept.ensures.keeps

pub returns-else-hinted-clause-worked : goal.returns-else-hinted-clause-worked
returns-else-hinted-clause-worked g c e =
    some_from c.args.round.now.own.items c.args.self.now c.serve_hinted-hinted.new.self c.sweep-swept.new.self c.serve_hinted-hinted.ensures.keeps
    (subst (λ own. SomeWorked own c.serve_hinted-hinted.new.self c.sweep-swept.new.self) c.serve_hinted-hinted.ensures.round.own (c.sweep-swept.ensures.worked e))

pub returns-else-hinted-clause-idle : goal.returns-else-hinted-clause-idle
returns-else-hinted-clause-idle g c e =
    idle_after c.args.round.now.own.items c.args.self.now c.serve_hinted-hinted.new.self c.sweep-swept.new.self c.serve_hinted-hinted.ensures.keeps
    (subst (λ own. AllIdle own c.serve_hinted-hinted.new.self c.sweep-swept.new.self) c.serve_hinted-hinted.ensures.round.own (c.sweep-swept.ensures.idle e))
