use Rattle.expr_parser.proofs.Lists.{call-listed}
use Rattle.expr_parser.proofs.nodes.call.Goals as goal

pub returns : goal.returns
returns c = call-listed c.args.name c.args.args c.args.name.place
