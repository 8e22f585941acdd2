-- What a program that was checked keeps.
use Rattle.std.specs.Prelude.{◌≡◌, ◌<◌, ℕ, Bool, Option, Some, None, List, [], ◌∷◌, ◌++◌, length, slice_index_or}
use Rattle.forec_tree.specs.declared.fault.Fault.{Fault}
use Rattle.forec_tree.specs.declared.tree.Name.{Name}
use Rattle.forec_tree.specs.declared.tree.Combine.{Combine}
use Rattle.forec_tree.specs.Terms.{Term, Num, Read, Element, Un, Bin, And, Or, Choose, Call, Terms, no_terms, more_terms, Declared, PlainTarget, Statement, Declare, Nothing, Group, Assign, Invoke, If, While, For, Pause, Par, Abort, Return, Statements, no_statements, more_statements, Perhaps, absent, present, Branches, no_branches, by_call, by_group, Text, PlainItem, IsGlobal, IsFunction}
use Rattle.forec_tree.specs.Faults.{Member, IsFault}

-- the names that stand in a term, a statement, an item
abbrev mutual
  pub term_names : Term → List Name
  term_names (Num at n) = []
  term_names (Read at name) = name ∷ []
  term_names (Element at name i) = name ∷ term_names i
  term_names (Un at op a) = term_names a
  term_names (Bin at op a b) = term_names a ++ term_names b
  term_names (And at a b) = term_names a ++ term_names b
  term_names (Or at a b) = term_names a ++ term_names b
  term_names (Choose at t a b) = term_names t ++ (term_names a ++ term_names b)
  term_names (Call at name args) = name ∷ terms_names args

  pub terms_names : Terms → List Name
  terms_names no_terms = []
  terms_names (more_terms e rest) = term_names e ++ terms_names rest

abbrev pub optional_names : Option Term → List Name
optional_names None = []
optional_names (Some e) = term_names e

abbrev pub locals_names : List Declared → List Name
locals_names [] = []
locals_names (l ∷ rest) = l.name ∷ terms_names l.values ++ locals_names rest

abbrev mutual
  pub statement_names : Statement → List Name
  statement_names (Nothing at) = []
  statement_names (Group at body) = statements_names body
  statement_names (Declare at locals) = locals_names locals
  statement_names (Assign at target op value) = target.name ∷ optional_names target.index ++ term_names value
  statement_names (Invoke at name args) = name ∷ terms_names args
  statement_names (If at test a b) = term_names test ++ (statement_names a ++ perhaps_names b)
  statement_names (While at test bound body) = term_names test ++ statement_names body
  statement_names (For at start test step bound body) = perhaps_names start ++ (optional_names test ++ (perhaps_names step ++ statement_names body))
  statement_names (Pause at) = []
  statement_names (Par at bs) = branches_names bs
  statement_names (Abort at weak immediate test body) = term_names test ++ statements_names body
  statement_names (Return at value) = term_names value

  pub statements_names : Statements → List Name
  statements_names no_statements = []
  statements_names (more_statements a rest) = statement_names a ++ statements_names rest

  pub perhaps_names : Perhaps → List Name
  perhaps_names absent = []
  perhaps_names (present a) = statement_names a

  pub branches_names : Branches → List Name
  branches_names no_branches = []
  branches_names (by_call name args rest) = name ∷ terms_names args ++ branches_names rest
  branches_names (by_group at body rest) = statements_names body ++ branches_names rest

abbrev pub combine_names : Option Combine → List Name
combine_names None = []
combine_names (Some c) = c.with ∷ []

abbrev pub item_names : PlainItem → List Name
item_names (IsGlobal g) = g.name ∷ combine_names g.combine
item_names (IsFunction f) = f.name ∷ f.params ++ statements_names f.body

abbrev pub text_names : Text → List Name
text_names [] = []
text_names (i ∷ rest) = item_names i ++ text_names rest

-- each name of the text has a number below that of the names
abbrev pub IdsBelow : Text → ℕ → Type 0
IdsBelow text n = (name : Name) → Member name (text_names text) → name.id < n

-- no two names are spelled alike
abbrev pub Distinct : List (List ℕ) → Type 0
Distinct names = (i j : ℕ) → i < length names → j < length names → slice_index_or names i [] ≡ slice_index_or names j [] → i ≡ j

-- no rule is broken
abbrev pub Faultless : Text → List (List ℕ) → Type 0
Faultless text names = (f : Fault) → IsFault text names f → ⊥
