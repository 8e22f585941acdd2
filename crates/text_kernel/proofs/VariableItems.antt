-- The variables of a program are those of its globals that aren't constants, each with all its elements.
use Rattle.std.proofs.Common.{ℕ, ◌+◌, ◌≡◌, ◌∙◌, sym, ap, refl, Bool, true, false, cond, List, [], ◌∷◌, ◌++◌, map, sum, arith}
use Rattle.std.proofs.lemmas.List.Sums.{sum_by-cons}
use Rattle.forec_tree.specs.Terms.{Text, PlainGlobal, IsGlobal, IsFunction}
use Rattle.forec_tree.specs.Rules.{is_constant}
use Rattle.forec_tree.specs.Variables.{width, variables_of, variables, count_variables}
use Rattle.text_kernel.specs.Items.{variable_items, each_variable}

pub variables_are : (t : Text) → variables t ≡ each_variable (variable_items t)
variables_are [] = refl
variables_are (IsFunction f ∷ rest) = variables_are rest
variables_are (IsGlobal g ∷ rest) = pick (is_constant g.kind) (variables_are rest)
  where
    pick : (b : Bool) → variables rest ≡ each_variable (variable_items rest) →
        cond b (variables rest) (variables_of g ++ variables rest) ≡ each_variable (cond b (variable_items rest) (g ∷ variable_items rest))
    pick true e = e
    pick false e = ap (λ l. variables_of g ++ l) e

pub widths_are : (t : Text) → count_variables t ≡ sum (map width (variable_items t))
widths_are [] = refl
widths_are (IsFunction f ∷ rest) = widths_are rest
widths_are (IsGlobal g ∷ rest) = pick (is_constant g.kind) (widths_are rest)
  where
    pick : (b : Bool) → count_variables rest ≡ sum (map width (variable_items rest)) →
        cond b (count_variables rest) (width g + count_variables rest) ≡ sum (map width (cond b (variable_items rest) (g ∷ variable_items rest)))
    pick true e = e
    pick false e = let one = sum_by-cons (λ n. n) (width g) (map width (variable_items rest)) in omega (arith, one, e)
