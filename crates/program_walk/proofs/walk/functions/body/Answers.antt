use Rattle.std.proofs.Common.{◌≡◌, ◌∙◌, sym, ap, refl}
use Rattle.forec_tree.specs.Plain as plain
use Rattle.forec_tree.specs.Scopes.{no_scope, with_params}
use Rattle.forec_tree.specs.Findings.{in_params, in_statements}
use Rattle.loop_check.specs.Views.{indexed_text}
use Rattle.program_walk.specs.Views.{judging, scope_of}
use Rattle.program_walk.specs.Walk.{notes_of, walked}
use Rattle.program_walk.proofs.Parts.{two}
use Rattle.program_walk.proofs.walk.functions.body.Goals as goal

pub returns-clause-notes : goal.returns-clause-notes
returns-clause-notes c =
    let f = c.args.f.now in
    let j = judging c.args.names.now f.gives in
    let text = indexed_text c.args.index.now in
    let k = notes_of c.args.notes.now in
    let scope = c.in_ok-parameters.ensures.scope ∙ ap (λ s. with_params s c.as_slice.result.now) c.hide-outer.ensures.scope ∙ ap (with_params no_scope) c.as_slice.ensures in
    two j (in_params text no_scope f.params) (in_statements text (with_params no_scope f.params) (plain.statements f.body)) k (notes_of c.parameters.new.notes) (notes_of c.statements.new.notes)
    (c.in_ok-parameters.ensures.notes ∙ ap (λ s. walked j (in_params text s c.as_slice.result.now) k) c.hide-outer.ensures.scope
    ∙ ap (λ ps. walked j (in_params text no_scope ps) k) c.as_slice.ensures)
    (c.in_ok-statements.ensures.notes ∙ ap (λ s. walked j (in_statements text s (plain.statements c.as_slice-2.result.now)) (notes_of c.parameters.new.notes)) scope
    ∙ ap (λ b. walked j (in_statements text (with_params no_scope f.params) (plain.statements b)) (notes_of c.parameters.new.notes)) c.as_slice-2.ensures)
