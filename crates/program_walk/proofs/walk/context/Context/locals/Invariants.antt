use Rattle.std.proofs.Common.{◌≡◌, map, drop}
use Rattle.forec_tree.specs.Plain as plain
use Rattle.forec_tree.specs.Findings.{in_locals}
use Rattle.forec_tree.specs.Scopes.{with_locals}
use Rattle.program_walk.specs.Views.{judging_in, text_in, scope_of, ExtendsScope}
use Rattle.program_walk.specs.Walk.{notes_of, walked}
use Rattle.program_walk.proofs.walk.context.Context.locals.Given as goal

abbrev pub invariant-loop-l : goal.invariant-loop-l
invariant-loop-l l =
    (walked (judging_in l.self) (in_locals (text_in l.self) (scope_of l.scope) (map plain.declared (drop l.l-index l.list))) (notes_of l.notes)
    ≡ walked (judging_in l.self) (in_locals (text_in l.self) (scope_of l.fn.scope) (map plain.declared l.fn.list)) (notes_of l.fn.notes))
    × (with_locals (scope_of l.scope) (map plain.declared (drop l.l-index l.list)) ≡ with_locals (scope_of l.fn.scope) (map plain.declared l.fn.list))
    × ExtendsScope l.fn.scope l.scope
