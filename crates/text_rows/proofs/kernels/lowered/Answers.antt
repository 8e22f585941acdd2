use Rattle.std.proofs.Common.{List, subst}
use Rattle.forec_tree.specs.declared.token.Token.{Token}
use Rattle.forec_tree.specs.Plain as tree
use Rattle.forec_tree.specs.SpelledPrograms.{IsSpelled}
use Rattle.forec_parser.specs.Input.{max_level}
use Rattle.forec_check.proofs.NamesBelow.{names_below}
use Rattle.text_rows.proofs.kernels.lowered.Goals as goal

pub check-requires-clause-below : goal.check-requires-clause-below
check-requires-clause-below c =
    let text = tree.program c.in_ok-program.program in
    let tokens = c.in_ok-lexed.lexed.tokens.items in
    let spelled = subst (λ (ts : List Token). IsSpelled max_level text ts) c.deref.ensures.value c.in_ok-program.ensures.found in
    names_below max_level text tokens c.in_ok-lexed.lexed.names spelled c.in_ok-lexed.ensures.ids
