use Rattle.std.proofs.Common.{◌≡◌, drop}
use Rattle.forec_tree.specs.Plain as plain
use Rattle.forec_tree.specs.Findings.{in_terms}
use Rattle.program_walk.specs.Views.{judging_in, text_in, scope_of}
use Rattle.program_walk.specs.Walk.{notes_of, walked}
use Rattle.program_walk.proofs.walk.context.Context.expressions.Given as goal

abbrev pub invariant-loop-e : goal.invariant-loop-e
invariant-loop-e l =
    walked (judging_in l.self) (in_terms (text_in l.self) (scope_of l.scope) (plain.terms (drop l.e-index l.list))) (notes_of l.notes)
    ≡ walked (judging_in l.self) (in_terms (text_in l.self) (scope_of l.scope) (plain.terms l.fn.list)) (notes_of l.fn.notes)
