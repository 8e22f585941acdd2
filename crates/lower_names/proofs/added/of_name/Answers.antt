use Rattle.loop_check.specs.Views.{indexed_text}
use Rattle.lower_names.proofs.AdditionLemmas.{function_none}
use Rattle.lower_names.proofs.added.of_name.Goals as goal

pub returns-in-None : goal.returns-in-None
returns-in-None c = function_none (indexed_text c.args.index.now) c.args.id c.nothing.result c.nothing.ensures c.in-None.ensures

pub returns-in-Ok : goal.returns-in-Ok
returns-in-Ok c = c.in-Ok.ensures (indexed_text c.args.index.now) c.requires c.args.id c.in-Some.ensures
