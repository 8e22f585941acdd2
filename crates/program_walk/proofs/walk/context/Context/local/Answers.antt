use Rattle.std.proofs.Common.{refl, ◌∷◌, []}
use Rattle.forec_tree.specs.Findings.{Declares}
use Rattle.program_walk.specs.Views.{judging_in, text_in, scope_of}
use Rattle.program_walk.specs.Walk.{notes_of}
use Rattle.program_walk.proofs.WalkLemmas.{walked_early}
use Rattle.program_walk.proofs.Statements.{local_is}
use Rattle.program_walk.proofs.walk.context.Context.local.Goals as goal

pub returns-clause-notes : goal.returns-clause-notes
returns-clause-notes c =
    let j = judging_in c.args.self.now in
    let text = text_in c.args.self.now in
    let s = scope_of c.args.scope.now in
    let k = notes_of c.args.notes.now in
    let declares = Declares c.args.l.now.name c.is_here-again.result c.args.l.now.length c.len.result in
    local_is j text s k _ (notes_of c.expressions.new.notes) c.args.l.now c.is_here-again.result c.len.result c.as_slice.result.now
    c.is_here-again.ensures c.len.ensures c.as_slice.ensures (walked_early j (declares ∷ []) k _ refl c.judge_declared.ensures refl) c.in_ok-expressions.ensures
