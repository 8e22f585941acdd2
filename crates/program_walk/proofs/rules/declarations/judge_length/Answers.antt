use Rattle.program_walk.proofs.UseRules.{length_none}
use Rattle.program_walk.proofs.rules.declarations.judge_length.Goals as goal

pub returns-in-None : goal.returns-in-None
returns-in-None c = length_none c.args.length c.args.least.now c.in-None.is
