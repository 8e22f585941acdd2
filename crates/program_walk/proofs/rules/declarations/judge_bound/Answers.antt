use Rattle.program_walk.specs.Views.{judging_in}
use Rattle.program_walk.proofs.UseRules.{bound_none, bound_some}
use Rattle.program_walk.proofs.rules.declarations.judge_bound.Goals as goal

pub returns-in-None : goal.returns-in-None
returns-in-None c = bound_none (judging_in c.args.context.now) c.args.bound c.args.least.now c.in-None.is

pub returns-in-Some : goal.returns-in-Some
returns-in-Some c = bound_some (judging_in c.args.context.now) c.args.bound c.in-Some.n c.args.least.now c.keep_fault.new.least c.in-Some.is (cc)
