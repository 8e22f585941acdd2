use Rattle.statement_parser.proofs.Lists.{par-launched}
use Rattle.statement_parser.proofs.parts.fork.Goals as goal

pub returns : goal.returns
returns c = par-launched c.args.branches c.args.place
