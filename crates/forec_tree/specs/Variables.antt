-- The variables of a program: what threads have copies of. Each element of a shared array is a variable of its own.
use Rattle.std.specs.Prelude.{ℕ, zero, suc, ◌+◌, pos, negsuc, cond, Option, Some, None, List, [], ◌∷◌, ◌++◌}
use Rattle.forec_tree.specs.declared.tree.Number.{Number}
use Rattle.forec_tree.specs.Terms.{Text, PlainGlobal, IsGlobal, IsFunction}
use Rattle.forec_tree.specs.Scopes.{is_constant, stated_length}

-- an input, an output, a plain global or a shared variable, or an element of a shared array
pub record PlainVariable : Type 0 where
  pub global : PlainGlobal
  -- where the element stands in its array, from 0
  pub index : Option ℕ

-- as many elements as a length says, and none below 1
abbrev pub elements : Number → ℕ
elements n = elim n.value [ pos count ↦ count | negsuc below ↦ 0 ]

-- how many variables a global is that isn't a constant: an array is as many as it has elements
abbrev pub width : PlainGlobal → ℕ
width g = elim (stated_length g) [ None ↦ 1 | Some n ↦ elements n ]

-- so many elements of an array, from the one of this index
abbrev pub elements_from : PlainGlobal → ℕ → ℕ → List PlainVariable
elements_from g index zero = []
elements_from g index (suc count) = record { global = g; index = Some index } ∷ elements_from g (suc index) count

-- what a global declares that isn't a constant
abbrev pub variables_of : PlainGlobal → List PlainVariable
variables_of g = elim (stated_length g) [ None ↦ record { global = g; index = None } ∷ [] | Some n ↦ elements_from g 0 (elements n) ]

-- in order of declaration, and within an array in order of index
abbrev pub variables : Text → List PlainVariable
variables [] = []
variables (IsGlobal g ∷ rest) = cond (is_constant g.kind) (variables rest) (variables_of g ++ variables rest)
variables (IsFunction f ∷ rest) = variables rest

-- how many there are
abbrev pub count_variables : Text → ℕ
count_variables [] = 0
count_variables (IsGlobal g ∷ rest) = cond (is_constant g.kind) (count_variables rest) (width g + count_variables rest)
count_variables (IsFunction f ∷ rest) = count_variables rest
