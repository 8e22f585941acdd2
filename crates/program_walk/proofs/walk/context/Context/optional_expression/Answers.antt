use Rattle.std.proofs.Common.{◌∙◌, sym, ap}
use Rattle.forec_tree.specs.Plain as plain
use Rattle.forec_tree.specs.Findings.{in_optional}
use Rattle.program_walk.specs.Views.{judging_in, text_in, scope_of}
use Rattle.program_walk.specs.Walk.{notes_of, walked}
use Rattle.program_walk.proofs.WalkLemmas.{walked-none}
use Rattle.program_walk.proofs.walk.context.Context.optional_expression.Goals as goal

pub returns-in-None : goal.returns-in-None
returns-in-None c =
    let j = judging_in c.args.self.now in
    let text = text_in c.args.self.now in
    let s = scope_of c.args.scope.now in
    let k = notes_of c.args.notes.now in
    sym (walked-none j k) ∙ ap (λ o. walked j (in_optional text s (plain.optional_term o)) k) (sym c.in-None.is)
