use Rattle.std.proofs.Common.{ap}
use Rattle.forec_tree.specs.Parts.{Calls}
use Rattle.expr_parser.proofs.Lists.{terms-listed}
use Rattle.statement_parser.proofs.parts.start_call.Goals as goal

pub returns : goal.returns
returns c = ap (Calls c.args.name) (terms-listed c.args.args)
