use Rattle.std.proofs.Common.{arith}
use Rattle.std.proofs.lemmas.List.{nil_from_length}
use Rattle.body_lower.proofs.Pended.{stack_next, stack_done}
use Rattle.body_lower.proofs.threads.stacked.Goals as goal

pub loop-one-preserved : goal.loop-one-preserved
loop-one-preserved c =
    λ text. stack_next text c.loop-one.pending.items c.pop.new.self.items c.loop-one.stack.items c.push.new.self.items c.in-Some.one _ c.in-Some.ensures.items c.in_ok-push.ensures.items (c.loop-one.invariant text)

pub returns-clause-stack : goal.returns-clause-stack
returns-clause-stack c =
    λ text. stack_done text c.loop-one.pending.items c.loop-one.stack.items _ (nil_from_length c.loop-one.pending.items (let e = c.in_default.ensures.cases.0 in omega (arith, e))) (c.loop-one.invariant text)

pub returns-clause-none : goal.returns-clause-none
returns-clause-none c = nil_from_length c.pop.new.self.items (let e = c.in_default.ensures.cases.1 in omega (arith, e))
