-- The variables of a program have names of its text.
use Rattle.std.proofs.Common.{◌≡◌, ℕ, zero, suc, ◌<◌, Bool, true, false, cond, nat_lt, Option, Some, None, List, [], ◌∷◌, ◌++◌, map, length, get_or, ltb-true, ap, ◌∙◌, arith}
use Rattle.std.specs.List.{AllByRecursion}
use Rattle.std.proofs.lemmas.Bool.{and_parts}
use Rattle.std.proofs.lemmas.Option.{slice_get_within}
use Rattle.std.proofs.lemmas.List.Elements.{All-weaker}
use Rattle.forec_tree.specs.declared.tree.Name.{Name}
use Rattle.forec_tree.specs.declared.tree.Number.{Number}
use Rattle.forec_tree.specs.declared.token.Token.{Token}
use Rattle.forec_tree.specs.Faults.{Member, here, later}
use Rattle.forec_tree.specs.Lexis.{IsName}
use Rattle.forec_tree.specs.LexedText.{IsLexed, IsSpelt, IsNumbered, token_bytes}
use Rattle.forec_tree.specs.Scopes.{is_constant, stated_length}
use Rattle.forec_tree.specs.SpelledPrograms.{IsSpelled}
use Rattle.forec_tree.specs.Terms.{PlainGlobal, IsGlobal, IsFunction, Text}
use Rattle.forec_tree.specs.Variables.{PlainVariable, elements, elements_from, variables_of, variables}
use Rattle.forec_kernel.specs.WellFormed.{all_below}
use Rattle.forec_lexer.proofs.Whole.{named}
use Rattle.forec_check.specs.Faultless.{text_names, item_names, IdsBelow}
use Rattle.forec_check.proofs.NamesBelow.{names_below}
use Rattle.text_kernel.specs.Kernels.{element_name, variable_name, kernel_of}
use Rattle.text_kernel.proofs.Counting.{names_each, inputs_named, outputs_named}
use Rattle.text_names.specs.Names.{IsPlainName, IsVariableName, whole_name, array_element, names_by_number}
use Rattle.text_names.specs.Laws.{SpelledProgramsHaveNames, SpelledVariablesAreNamed, SpelledOutputsAreSafe}
use Rattle.text_names.proofs.Bytes.{all_append, all_weaker, variable_plain, safe_names}
use Rattle.text_names.proofs.TextNames.{AreNames, cuts_named}

-- ---- numbers of names

module _ (n : ℕ) where
  abbrev AreNumbered : List PlainVariable → Type 0
  AreNumbered = AllByRecursion (λ (v : PlainVariable). v.global.name.id < n)

  elements_numbered : (g : PlainGlobal) → g.name.id < n → (i count : ℕ) → AreNumbered (elements_from g i count)
  elements_numbered g h i zero = tt
  elements_numbered g h i (suc count) = (h, elements_numbered g h (suc i) count)

  global_numbered : (g : PlainGlobal) → g.name.id < n → AreNumbered (variables_of g)
  global_numbered g h = by (stated_length g)
    where
      by : (size : Option Number) → AreNumbered (elim size [ None ↦ record { global = g; index = None } ∷ [] | Some m ↦ elements_from g 0 (elements m) ])
      by None = (h, tt)
      by (Some m) = elements_numbered g h 0 (elements m)

  member_right : (x : Name) (xs ys : List Name) → Member x ys → Member x (xs ++ ys)
  member_right x [] ys m = m
  member_right x (y ∷ xs) ys m = later (member_right x xs ys m)

  variables_numbered : (text : Text) → IdsBelow text n → AreNumbered (variables text)
  variables_numbered [] h = tt
  variables_numbered (IsFunction f ∷ rest) h = variables_numbered rest (λ x m. h x (member_right x (item_names (IsFunction f)) (text_names rest) m))
  variables_numbered (IsGlobal g ∷ rest) h =
      by (is_constant g.kind) (variables_numbered rest (λ x m. h x (member_right x (item_names (IsGlobal g)) (text_names rest) m)))
    where
      by : (b : Bool) → AreNumbered (variables rest) → AreNumbered (cond b (variables rest) (variables_of g ++ variables rest))
      by true r = r
      by false r = all_append (λ (v : PlainVariable). v.global.name.id < n) (variables_of g) (variables rest) (global_numbered g (h g.name here)) r

-- ---- names

module _ (P : List ℕ → Type 0) where
  at_number : (names : List (List ℕ)) (i : ℕ) → AllByRecursion P names → i < length names → P (get_or names i [])
  at_number [] i h less = absurd (omega arith)
  at_number (x ∷ names) zero h less = h.0
  at_number (x ∷ names) (suc i) h less = at_number names i h.1 (omega arith)

  -- the names at numbers of which each is that of one
  at_numbers : (names : List (List ℕ)) (numbers : List ℕ) → AllByRecursion P names → all_below (length names) numbers ≡ true → AllByRecursion P (names_by_number names numbers)
  at_numbers names [] h below = tt
  at_numbers names (v ∷ rest) h below =
      let parts = and_parts (nat_lt v (length names)) (all_below (length names) rest) below in
      (at_number names v h (ltb-true v (length names) parts.0), at_numbers names rest h parts.1)

element_named : (name : List ℕ) (index : Option ℕ) → IsName name → IsVariableName (element_name name index)
element_named name None h = whole_name name h
element_named name (Some i) h = array_element name i h

variables_named : (names : List (List ℕ)) (vs : List PlainVariable) → AreNames names → AreNumbered (length names) vs →
    AllByRecursion IsVariableName (map (variable_name names) vs)
variables_named names [] h g = tt
variables_named names (v ∷ vs) h g =
    (element_named (get_or names v.global.name.id []) v.index (at_number IsName names v.global.name.id h g.0), variables_named names vs h g.1)

-- ---- the kernel

ids_below : (bytes : List ℕ) (tokens : List Token) (names : List (List ℕ)) (limit : ℕ) (program : Text) → IsLexed bytes tokens names → IsSpelled limit program tokens →
    IdsBelow program (length names)
ids_below bytes tokens names limit program lexed spelled =
    names_below limit program tokens names spelled
    (All-weaker (IsSpelt bytes names) (IsNumbered names) (λ t s i e. slice_get_within names i (token_bytes bytes t) (s i e)) tokens (named lexed.lexes.cuts).spelt)

all_named : (bytes : List ℕ) (tokens : List Token) (names : List (List ℕ)) (limit : ℕ) (program : Text) → IsLexed bytes tokens names → IsSpelled limit program tokens →
    AllByRecursion IsVariableName (kernel_of program names).shape.names
unfolding kernel_of
all_named bytes tokens names limit program lexed spelled =
    variables_named names (variables program) (cuts_named lexed.lexes.cuts)
    (variables_numbered (length names) program (ids_below bytes tokens names limit program lexed spelled))

pub spelled_variables_are_named : SpelledVariablesAreNamed
spelled_variables_are_named bytes tokens names limit program lexed spelled =
    let s = (kernel_of program names).shape in
    let all = all_named bytes tokens names limit program lexed spelled in
    let count : length s.names ≡ length s.variables = names_each program names in
    record {
      variables = all;
      inputs = at_numbers IsVariableName s.names s.inputs all (ap (λ n. all_below n s.inputs) count ∙ inputs_named program names);
      outputs = at_numbers IsVariableName s.names s.outputs all (ap (λ n. all_below n s.outputs) count ∙ outputs_named program names);
    }

pub spelled_programs_have_names : SpelledProgramsHaveNames
spelled_programs_have_names bytes tokens names limit program lexed spelled =
    all_weaker IsVariableName IsPlainName variable_plain (kernel_of program names).shape.names (all_named bytes tokens names limit program lexed spelled)

pub spelled_outputs_are_safe : SpelledOutputsAreSafe
spelled_outputs_are_safe bytes tokens names limit program lexed spelled =
    safe_names (kernel_of program names).shape.names (kernel_of program names).shape.outputs (spelled_programs_have_names bytes tokens names limit program lexed spelled)
