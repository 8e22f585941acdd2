-- How many variables a program has.
use Rattle.std.proofs.Common.{ℕ, zero, suc, ◌+◌, ◌≡◌, ◌∙◌, ap, refl, Bool, true, false, cond, Option, Some, None, List, [], ◌∷◌, ◌++◌, length, length-append, arith}
use Rattle.forec_tree.specs.declared.tree.Number.{Number}
use Rattle.forec_tree.specs.Scopes.{is_constant, stated_length}
use Rattle.forec_tree.specs.Terms.{Text, PlainGlobal, IsGlobal, IsFunction}
use Rattle.forec_tree.specs.Variables.{PlainVariable, elements, width, elements_from, variables_of, variables, count_variables}

pub elements_counted : (g : PlainGlobal) (index count : ℕ) → length (elements_from g index count) ≡ count
elements_counted g index zero = refl
elements_counted g index (suc count) = ap suc (elements_counted g (suc index) count)

pub width_counted : (g : PlainGlobal) → length (variables_of g) ≡ width g
width_counted g = pick (stated_length g)
  where
    pick : (o : Option Number) →
        length {A = PlainVariable} (elim o [ None ↦ record { global = g; index = None } ∷ [] | Some n ↦ elements_from g 0 (elements n) ]) ≡ elim o [ None ↦ 1 | Some n ↦ elements n ]
    pick None = refl
    pick (Some n) = elements_counted g 0 (elements n)

pub variables_counted : (text : Text) → length (variables text) ≡ count_variables text
variables_counted [] = refl
variables_counted (IsFunction f ∷ rest) = variables_counted rest
variables_counted (IsGlobal g ∷ rest) = pick (is_constant g.kind) (variables_counted rest)
  where
    pick : (b : Bool) → length (variables rest) ≡ count_variables rest →
        length (cond b (variables rest) (variables_of g ++ variables rest)) ≡ cond b (count_variables rest) (width g + count_variables rest)
    pick true r = r
    pick false r = let a = length-append (variables_of g) (variables rest) in let w = width_counted g in omega (arith, a, w, r)
