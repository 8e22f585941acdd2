use Rattle.std.proofs.Common.{◌≡◌, drop}
use Rattle.forec_tree.specs.Findings.{in_params}
use Rattle.forec_tree.specs.Scopes.{with_params}
use Rattle.program_walk.specs.Views.{judging_in, text_in, scope_of, ExtendsScope}
use Rattle.program_walk.specs.Walk.{notes_of, walked}
use Rattle.program_walk.proofs.walk.context.Context.parameters.Given as goal

abbrev pub invariant-loop-name : goal.invariant-loop-name
invariant-loop-name l =
    (walked (judging_in l.self) (in_params (text_in l.self) (scope_of l.scope) (drop l.name-index l.all)) (notes_of l.notes)
    ≡ walked (judging_in l.self) (in_params (text_in l.self) (scope_of l.fn.scope) l.fn.all) (notes_of l.fn.notes))
    × (with_params (scope_of l.scope) (drop l.name-index l.all) ≡ with_params (scope_of l.fn.scope) l.fn.all)
    × ExtendsScope l.fn.scope l.scope
