use Rattle.std.proofs.Common.{ap}
use Rattle.forec_tree.specs.Terms as plain
use Rattle.expr_parser.proofs.Lists.{terms-listed}
use Rattle.statement_parser.proofs.parts.invoke.Goals as goal

pub returns : goal.returns
returns c = ap (plain.Invoke c.args.name.place c.args.name) (terms-listed c.args.args)
