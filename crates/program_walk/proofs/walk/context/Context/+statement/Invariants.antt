use Rattle.std.proofs.Common.{◌≡◌, drop}
use Rattle.forec_tree.specs.Plain as plain
use Rattle.forec_tree.specs.Findings.{in_statements, in_branches}
use Rattle.program_walk.specs.Views.{judging_in, text_in, scope_of, ExtendsScope, SameScope}
use Rattle.program_walk.specs.Walk.{notes_of, walked}
use Rattle.program_walk.proofs.walk.context.Context.+statement.Given as goal

abbrev pub invariant-statements-loop-s : goal.invariant-statements-loop-s
invariant-statements-loop-s l =
    (walked (judging_in l.self) (in_statements (text_in l.self) (scope_of l.scope) (plain.statements (drop l.s-index l.body))) (notes_of l.notes)
    ≡ walked (judging_in l.self) (in_statements (text_in l.self) (scope_of l.fn.scope) (plain.statements l.fn.body)) (notes_of l.fn.notes))
    × ExtendsScope l.fn.scope l.scope

abbrev pub invariant-branches-loop-one : goal.invariant-branches-loop-one
invariant-branches-loop-one l =
    (walked (judging_in l.self) (in_branches (text_in l.self) (scope_of l.fn.scope) (plain.branches (drop l.one-index l.all))) (notes_of l.notes)
    ≡ walked (judging_in l.self) (in_branches (text_in l.self) (scope_of l.fn.scope) (plain.branches l.fn.all)) (notes_of l.fn.notes))
    × SameScope l.fn.scope l.scope
