use Rattle.std.proofs.Common.{◌≡◌, drop}
use Rattle.forec_tree.specs.Plain as plain
use Rattle.forec_tree.specs.Findings.{in_term, in_terms}
use Rattle.program_walk.specs.Views.{judging_in, text_in, scope_of}
use Rattle.program_walk.specs.Walk.{notes_of, walked}
use Rattle.program_walk.proofs.walk.context.Context.+expression.Given as goal

abbrev pub invariant-loop-arg : goal.invariant-loop-arg
invariant-loop-arg l =
    walked (judging_in l.self) (in_terms (text_in l.self) (scope_of l.scope) (plain.terms (drop l.arg-index l.arg-items))) (notes_of l.notes)
    ≡ walked (judging_in l.self) (in_term (text_in l.self) (scope_of l.scope) (plain.term l.e)) (notes_of l.fn.notes)
