-- The terms of a list, as the plain tree has them.
use Rattle.std.proofs.Common.{◌≡◌, List, [], ◌∷◌, map, refl, ap, ◌∙◌}
use Rattle.forec_base.specs.declared.Place.{Place}
use Rattle.forec_tree.specs.declared.tree.Name.{Name}
use Rattle.forec_tree.specs.declared.tree.Expr.{Expr}
use Rattle.forec_tree.specs.declared.tree.ExprKind.{Call}
use Rattle.forec_tree.specs.Terms as plain
use Rattle.forec_tree.specs.Terms.{more_terms}
use Rattle.forec_tree.specs.Plain.{term, terms, term_at}
use Rattle.forec_tree.specs.Spelling.{listed}
use Rattle.forec_tree.proofs.Rows.{term-call}

pub terms-listed : (es : List Expr) → terms es ≡ listed (map term es)
terms-listed [] = refl
terms-listed (e ∷ es) = ap (more_terms (term e)) (terms-listed es)

pub call-listed : (name : Name) (args : List Expr) (at : Place) → term_at (Call name args) at ≡ plain.Call at name (listed (map term args))
call-listed name args at = term-call name args at ∙ ap (plain.Call at name) (terms-listed args)
