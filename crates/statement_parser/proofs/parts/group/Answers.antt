use Rattle.statement_parser.proofs.Lists.{group-in_order}
use Rattle.statement_parser.proofs.parts.group.Goals as goal

pub returns : goal.returns
returns c = group-in_order c.args.block.body c.args.block.place
