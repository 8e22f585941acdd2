use Rattle.std.proofs.Common.{ap}
use Rattle.forec_tree.specs.Terms.{Terms, Declared}
use Rattle.expr_parser.proofs.Lists.{terms-listed}
use Rattle.statement_parser.proofs.parts.local.Goals as goal

pub returns : goal.returns
returns c =
    let made : Terms → Declared = λ values. record { name = c.args.name; length = c.args.length; values = values } in
    ap made (terms-listed c.args.values)
