use Rattle.statement_parser.proofs.Lists.{launch-group}
use Rattle.statement_parser.proofs.parts.start_block.Goals as goal

pub returns : goal.returns
returns c = launch-group c.args.block.place c.args.block.body
