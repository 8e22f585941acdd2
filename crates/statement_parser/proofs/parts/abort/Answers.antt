use Rattle.std.proofs.Common.{◌∙◌, ap, map}
use Rattle.forec_tree.specs.Terms as plain
use Rattle.forec_tree.specs.Parts.{in_order}
use Rattle.forec_tree.specs.Plain.{term, statement}
use Rattle.statement_parser.proofs.Lists.{abort-in_order}
use Rattle.statement_parser.proofs.parts.abort.Goals as goal

pub returns : goal.returns
returns c =
    abort-in_order c.args.weak c.args.immediate c.into_inner.result c.args.block.body c.args.place
    ∙ ap (λ z. plain.Abort c.args.place c.args.weak c.args.immediate (term z) (in_order (map statement c.args.block.body))) c.into_inner.ensures
