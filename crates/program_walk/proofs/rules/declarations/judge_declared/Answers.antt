use Rattle.program_walk.specs.Views.{judging_in}
use Rattle.program_walk.proofs.UseRules.{declared_is}
use Rattle.program_walk.proofs.rules.declarations.judge_declared.Goals as goal

pub returns : goal.returns
returns c =
    declared_is (judging_in c.args.context.now) c.args.name c.args.again c.args.length c.args.values
    c.args.least.now c.keep_fault.new.least c.judge_length.new.least c.keep_fault-2.new.least c.keep_fault-3.new.least (cc) (cc) (cc) (cc)
