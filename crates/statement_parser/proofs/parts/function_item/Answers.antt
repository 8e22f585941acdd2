use Rattle.std.proofs.Common.{ap}
use Rattle.forec_tree.specs.Terms.{Statements, PlainItem, IsFunction}
use Rattle.statement_parser.proofs.Lists.{statements-in_order}
use Rattle.statement_parser.proofs.parts.function_item.Goals as goal

pub returns : goal.returns
returns c =
    let made : Statements → PlainItem = λ body. IsFunction (record { name = c.args.name; gives = c.args.gives; params = c.args.params; body = body }) in
    ap made (statements-in_order c.args.block.body)
