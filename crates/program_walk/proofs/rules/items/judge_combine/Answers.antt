use Rattle.loop_check.specs.Views.{indexed_text}
use Rattle.program_walk.proofs.ItemRules.{no_combine}
use Rattle.program_walk.proofs.rules.items.judge_combine.Goals as goal

pub returns-in-None : goal.returns-in-None
returns-in-None c = no_combine (indexed_text c.args.index.now) c.args.combine c.args.least.now c.in-None.is
