-- The names of a program that tokens spell have the numbers of the name tokens.
use Rattle.std.proofs.Common.{◌≡◌, ℕ, zero, suc, ◌<◌, pos, List, [], ◌∷◌, ◌++◌, map, Option, Some, None, length, slice_get, slice_index_or, refl, sym, ap, subst, ◌∙◌, arith}
use Rattle.std.specs.List.{All, AllByRecursion}
use Rattle.std.proofs.lemmas.List.Elements.{recursion_from_All}
use Rattle.forec_base.specs.declared.Place.{Place}
use Rattle.forec_tree.specs.declared.operators.Operator.{Operator}
use Rattle.forec_tree.specs.declared.operators.Operator.TheVariants as oper
use Rattle.forec_tree.specs.declared.token.Token.{Token}
use Rattle.forec_tree.specs.declared.tree.Name.{Name}
use Rattle.forec_tree.specs.declared.tree.Combine.{Combine}
use Rattle.forec_tree.specs.declared.tree.GlobalKind.{GlobalKind}
use Rattle.forec_tree.specs.Terms.{Term, Num, Declared, PlainTarget, Statement, Perhaps, PlainGlobal, PlainItem, IsGlobal, Text}
use Rattle.forec_tree.specs.Faults.{Member, here, later}
use Rattle.forec_tree.specs.Parts.{in_order, Launch, launched, Head}
use Rattle.forec_tree.specs.Spelling as sp
use Rattle.forec_tree.specs.Spelling.{Spelt, IsNameToken, operator_term, listed, tokens, Spells, Whole, Brackets, SpellsIndex, SpellsArguments, SpellsExpressions}
use Rattle.forec_tree.specs.SpelledStatements as st
use Rattle.forec_tree.specs.SpelledStatements.{Separated, Targets, Simple, Lengths, Declares, SpellsBound, ForStarts, Tests, ForSteps, HeadParts, Heads, Optional, SpellsStatement, Block, SpellsStatements, SpellsBranches, Starting, SpellsLaunches}
use Rattle.forec_tree.specs.SpelledPrograms as pr
use Rattle.forec_tree.specs.SpelledPrograms.{Signed, Named, Scalar, SharedVariable, Table, Sharing, SpellsCombine, Param, Params, Parameters, Introduces, Programs, IsSpelled}
use Rattle.forec_tree.specs.LexedText.{IsNumbered, AreDistinct}
use Rattle.forec_check.specs.Faultless.{Distinct, term_names, terms_names, optional_names, locals_names, statement_names, statements_names, perhaps_names, branches_names, combine_names, item_names, text_names, IdsBelow}

module _ (n : ℕ) where
  -- a token that is a name has a number below n
  abbrev IsLow : Token → Type 0
  IsLow t = (id : ℕ) → IsNameToken id t → id < n

  abbrev AreLow : List Spelt → Type 0
  AreLow [] = Unit {0}
  AreLow (s ∷ ls) = IsLow s.token × AreLow ls

  abbrev AreBelow : List Name → Type 0
  AreBelow [] = Unit {0}
  AreBelow (x ∷ xs) = (x.id < n) × AreBelow xs

  front : (ls rs : List Spelt) → AreLow (ls ++ rs) → AreLow ls
  front [] rs h = tt
  front (s ∷ ls) rs h = (h.0, front ls rs h.1)

  behind : (ls rs : List Spelt) → AreLow (ls ++ rs) → AreLow rs
  behind [] rs h = h
  behind (s ∷ ls) rs h = behind ls rs h.1

  both : (xs ys : List Name) → AreBelow xs → AreBelow ys → AreBelow (xs ++ ys)
  both [] ys a b = b
  both (x ∷ xs) ys a b = (a.0, both xs ys a.1 b)

  -- ---- expressions

  joined_names : (op : Operator) (place : Place) (a b : Term) → AreBelow (term_names a ++ term_names b) → AreBelow (term_names (operator_term op place a b))
  joined_names oper.Or place a b h = h
  joined_names oper.And place a b h = h
  joined_names (oper.Computes op) place a b h = h

  mutual
    of_term : {k v w : ℕ} {e : Term} {ls : List Spelt} → Spells k e v ls w → AreLow ls → AreBelow (term_names e)
    of_term (sp.number value is) h = tt
    of_term (sp.read id is) h = (h.0 id is, tt)
    of_term (sp.element id is s) h = (h.0 id is, of_index s h.1)
    of_term (sp.call id is s) h = (h.0 id is, of_passed s h.1)
    of_term (sp.bracketed s) h = of_bracketed s h
    of_term (sp.unary op le is s) h = of_term s h.1
    of_term (sp.binary t {left = a} {right = b} {ls = ls} {rs = rs} op le s is r) h =
        joined_names op t.place a b (both (term_names a) (term_names b) (of_term s (front ls _ h)) (of_term r (behind ls _ h).1))
    of_term (sp.choose t colon {test = a} {first = b} {second = c} {ls = ls} {ms = ms} {rs = rs} le s is r also q) h =
        let rest = (behind ls _ h).1 in
        both (term_names a) (term_names b ++ term_names c) (of_term s (front ls _ h))
        (both (term_names b) (term_names c) (of_term r (front ms _ rest)) (of_term q (behind ms _ rest).1))

    of_whole : {v : ℕ} {e : Term} {ls : List Spelt} → Whole e v ls → AreLow ls → AreBelow (term_names e)
    of_whole (sp.whole s) h = of_term s h

    of_bracketed : {v : ℕ} {e : Term} {ls : List Spelt} → Brackets e v ls → AreLow ls → AreBelow (term_names e)
    of_bracketed (sp.brackets right {ls = ls} is s also) h = of_whole s (front ls _ h.1)

    of_index : {v : ℕ} {e : Term} {ls : List Spelt} → SpellsIndex e v ls → AreLow ls → AreBelow (term_names e)
    of_index (sp.indexes right {ls = ls} is s also) h = of_whole s (front ls _ h.1)

    of_passed : {v : ℕ} {es : List Term} {ls : List Spelt} → SpellsArguments es v ls → AreLow ls → AreBelow (terms_names (listed es))
    of_passed (sp.passes_none is also) h = tt
    of_passed (sp.passes right {ls = ls} is s also) h = of_arguments s (front ls _ h.1)

    of_arguments : {v : ℕ} {es : List Term} {ls : List Spelt} → SpellsExpressions es v ls → AreLow ls → AreBelow (terms_names (listed es))
    of_arguments (sp.one {arg = e} s) h = both (term_names e) [] (of_whole s h) tt
    of_arguments (sp.more {arg = e} {args = es} comma {ls = ls} s is r) h =
        both (term_names e) (terms_names (listed es)) (of_whole s (front ls _ h)) (of_arguments r (behind ls _ h).1)

  -- ---- simple statements

  of_target : {v : ℕ} {target : PlainTarget} {ls : List Spelt} → Targets target v ls → AreLow ls → AreBelow (target.name ∷ optional_names target.index)
  of_target (st.scalar id is) h = (h.0 id is, tt)
  of_target (st.indexed id is s) h = (h.0 id is, of_index s h.1)

  assigned : (target : PlainTarget) (e : Term) → AreBelow (target.name ∷ optional_names target.index) → AreBelow (term_names e)
      → AreBelow (target.name ∷ optional_names target.index ++ term_names e)
  assigned target e a b = both (target.name ∷ optional_names target.index) (term_names e) a b

  of_simple : {v : ℕ} {x : Statement} {ls : List Spelt} → Simple x v ls → AreLow ls → AreBelow (statement_names x)
  of_simple (st.sets {target = target} t {value = e} {ts = ts} s is r) h = assigned target e (of_target s (front ts _ h)) (of_whole r (behind ts _ h).1)
  of_simple (st.updates {target = target} t {value = e} {ts = ts} op s is r) h = assigned target e (of_target s (front ts _ h)) (of_whole r (behind ts _ h).1)
  of_simple (st.steps_after {target = target} t {ts = ts} op s is) h = assigned target (Num t.place (pos 1)) (of_target s (front ts _ h)) tt
  of_simple (st.steps_ahead {target = target} {t = t} op is s) h = assigned target (Num t.place (pos 1)) (of_target s h.1) tt
  of_simple (st.invokes id is s) h = (h.0 id is, of_passed s h.1)

  -- ---- parts between commas

  -- C holds of a list where each part's names are below
  of_parts : {A : Type 0} (Part : A → ℕ → List Spelt → Type 0) (C : List A → Type 0) → C [] → ((x : A) (xs : List A) (v : ℕ) (ls : List Spelt) → Part x v ls → AreLow ls → C xs → C (x ∷ xs))
      → {v : ℕ} {xs : List A} {ls : List Spelt} → Separated Part xs v ls → AreLow ls → C xs
  of_parts Part C none some (st.last_part {v} {x = x} {ls = ls} s) h = some x [] v ls s h none
  of_parts Part C none some (st.next_part {v} {x = x} {xs = xs} comma {ls = ls} s is r) h =
      some x xs v ls s (front ls _ h) (of_parts Part C none some r (behind ls _ h).1)

  of_declared : {v : ℕ} {l : Declared} {ls : List Spelt} → Declares l v ls → AreLow ls → AreBelow (l.name ∷ terms_names l.values)
  of_declared (st.bare id is) h = (h.0 id is, tt)
  of_declared (st.valued {value = e} id is also s) h = (h.0 id is, both (term_names e) [] (of_whole s h.1.1) tt)
  of_declared (st.array id is s) h = (h.0 id is, tt)
  of_declared (st.valued_array equal left right {ls = ls} {rs = rs} id is s a b r c) h = (h.0 id is, of_arguments r (front rs _ (behind ls _ h.1).1.1))

  of_locals : {v : ℕ} {locals : List Declared} {ls : List Spelt} → Separated Declares locals v ls → AreLow ls → AreBelow (locals_names locals)
  of_locals s h =
      of_parts Declares (λ ls. AreBelow (locals_names ls)) tt
      (λ x xs v ls p low rest. both (x.name ∷ terms_names x.values) (locals_names xs) (of_declared p low) rest) s h

  -- ---- loops

  of_start : {v : ℕ} {x : Perhaps} {ls : List Spelt} → ForStarts x v ls → AreLow ls → AreBelow (perhaps_names x)
  of_start st.no_start h = tt
  of_start (st.simple_start s) h = of_simple s h
  of_start (st.declared_start {value = e} id is also equal s) h =
      (h.1.0 id also, both (term_names e ++ []) [] (both (term_names e) [] (of_whole s h.1.1.1) tt) tt)

  of_test : {v : ℕ} {x : Option Term} {ls : List Spelt} → Tests x v ls → AreLow ls → AreBelow (optional_names x)
  of_test st.no_test h = tt
  of_test (st.some_test s) h = of_whole s h

  of_step : {v : ℕ} {x : Perhaps} {ls : List Spelt} → ForSteps x v ls → AreLow ls → AreBelow (perhaps_names x)
  of_step st.no_step h = tt
  of_step (st.some_step s) h = of_simple s h

  record HeadBelow (x : Head) : Type 0 where
    pub start : AreBelow (perhaps_names x.start)
    pub test : AreBelow (optional_names x.test)
    pub step : AreBelow (perhaps_names x.step)

  of_head_parts : {v : ℕ} {x : Head} {ls : List Spelt} → HeadParts x v ls → AreLow ls → HeadBelow x
  of_head_parts (st.head_parts first second {ls = ls} {ms = ms} a is b also c) h =
      let rest = (behind ls _ h).1 in
      record { start = of_start a (front ls _ h); test = of_test b (front ms _ rest); step = of_step c (behind ms _ rest).1 }

  of_head : {v : ℕ} {x : Head} {ls : List Spelt} → Heads x v ls → AreLow ls → HeadBelow x
  of_head (st.heads right {ls = ls} is s also) h = of_head_parts s (front ls _ h.1)

  -- ---- statements

  mutual
    of_statement : {v u : ℕ} {x : Statement} {o : _} {ls : List Spelt} → SpellsStatement x o v u ls → AreLow ls → AreBelow (statement_names x)
    of_statement (st.nothing is) h = tt
    of_statement (st.acts semicolon {ls = ls} s is) h = of_simple s (front ls _ h)
    of_statement (st.group s) h = of_block s h
    of_statement (st.declares semicolon {ls = ls} is s also) h = of_locals s (front ls _ h.1)
    of_statement (st.if_alone {test = e} {first = a} {ls = ls} is s r) h =
        both (term_names e) (statement_names a ++ []) (of_bracketed s (front ls _ h.1)) (both (statement_names a) [] (of_statement r (behind ls _ h.1)) tt)
    of_statement (st.if_else other {test = e} {first = a} {second = b} {ls = ls} {ms = ms} is s r also q) h =
        let rest = behind ls _ h.1 in
        both (term_names e) (statement_names a ++ statement_names b) (of_bracketed s (front ls _ h.1))
        (both (statement_names a) (statement_names b) (of_statement r (front ms _ rest)) (of_statement q (behind ms _ rest).1))
    of_statement (st.loops {test = e} {body = a} {ls = ls} {ms = ms} is s b r) h =
        both (term_names e) (statement_names a) (of_bracketed s (front ls _ h.1)) (of_statement r (behind ms _ (behind ls _ h.1)))
    of_statement (st.counts {head = x} {body = a} {ls = ls} {ms = ms} is s b r) h =
        let head = of_head s (front ls _ h.1) in
        both (perhaps_names x.start) (optional_names x.test ++ (perhaps_names x.step ++ statement_names a)) head.start
        (both (optional_names x.test) (perhaps_names x.step ++ statement_names a) head.test
        (both (perhaps_names x.step) (statement_names a) head.step (of_statement r (behind ms _ (behind ls _ h.1)))))
    of_statement (st.pauses is also) h = tt
    of_statement (st.forks semicolon {ls = ls} is s also) h = of_forks s (front ls _ h.1)
    of_statement (st.aborts t when semicolon {test = e} {body = body} {ws = ws} {ls = ls} {is = is} {ms = ms} weak a s b immediate r c) h =
        let block = (behind ws _ h).1 in
        let ending = (behind ls _ block).1 in
        both (term_names e) (statements_names (in_order body)) (of_bracketed r (front ms _ (behind is _ ending))) (of_block s (front ls _ block))
    of_statement (st.gives_back semicolon {ls = ls} is s also) h = of_whole s (front ls _ h.1)

    of_block : {v u : ℕ} {place : Place} {body : List Statement} {ls : List Spelt} → Block place body v u ls → AreLow ls → AreBelow (statements_names (in_order body))
    of_block (st.block right {ls = ls} is s also) h = of_list s (front ls _ h.1)

    of_list : {v : ℕ} {xs : List Statement} {ls : List Spelt} → SpellsStatements xs v ls → AreLow ls → AreBelow (statements_names (in_order xs))
    of_list st.no_more h = tt
    of_list (st.and_more {x = x} {xs = xs} {ls = ls} s r) h =
        both (statement_names x) (statements_names (in_order xs)) (of_statement s (front ls _ h)) (of_list r (behind ls _ h))

    of_forks : {v : ℕ} {xs : List Launch} {ls : List Spelt} → SpellsBranches xs v ls → AreLow ls → AreBelow (branches_names (launched xs))
    of_forks (st.forked right {ls = ls} is s also) h = of_branches s (front ls _ h.1)

    of_branch : {v : ℕ} {x : Launch} {ls : List Spelt} → Starting x v ls → AreLow ls → (xs : List Launch) → AreBelow (branches_names (launched xs)) → AreBelow (branches_names (launched (x ∷ xs)))
    of_branch (st.bare_call id is) h xs rest = (h.0 id is, rest)
    of_branch (st.call {args = es} id is s) h xs rest = (h.0 id is, both (terms_names (listed es)) (branches_names (launched xs)) (of_passed s h.1) rest)
    of_branch (st.blocked {body = body} s) h xs rest = both (statements_names (in_order body)) (branches_names (launched xs)) (of_block s h) rest

    of_branches : {v : ℕ} {xs : List Launch} {ls : List Spelt} → SpellsLaunches xs v ls → AreLow ls → AreBelow (branches_names (launched xs))
    of_branches (st.last_branch s) h = of_branch s h [] tt
    of_branches (st.next_branch {xs = xs} comma {ls = ls} s is r) h = of_branch s (front ls _ h) xs (of_branches r (behind ls _ h).1)

  -- ---- items

  abbrev ItemsBelow : List PlainItem → Type 0
  ItemsBelow [] = Unit {0}
  ItemsBelow (i ∷ is) = AreBelow (item_names i) × ItemsBelow is

  items_both : (xs ys : List PlainItem) → ItemsBelow xs → ItemsBelow ys → ItemsBelow (xs ++ ys)
  items_both [] ys a b = b
  items_both (x ∷ xs) ys a b = (a.0, items_both xs ys a.1 b)

  of_named : {kind : GlobalKind} {v : ℕ} {g : PlainGlobal} {ls : List Spelt} → Named kind g v ls → AreLow ls → AreBelow (item_names (IsGlobal g))
  of_named (pr.named id is) h = (h.0 id is, tt)

  of_scalar : {kind : GlobalKind} {combine : Option Combine} {v : ℕ} {g : PlainGlobal} {ls : List Spelt} → Scalar kind combine g v ls → AreLow ls → AreBelow (combine_names combine)
      → AreBelow (item_names (IsGlobal g))
  of_scalar (pr.unset id is) h c = (h.0 id is, c)
  of_scalar (pr.set id is also s) h c = (h.0 id is, c)

  of_shared : {kind : GlobalKind} {combine : Option Combine} {v : ℕ} {g : PlainGlobal} {ls : List Spelt} → SharedVariable kind combine g v ls → AreLow ls → AreBelow (combine_names combine)
      → AreBelow (item_names (IsGlobal g))
  of_shared (pr.one s) h c = of_scalar s h c
  of_shared (pr.array id is l) h c = (h.0 id is, c)
  of_shared (pr.valued_array equal left right id is l also a s b) h c = (h.0 id is, c)

  of_table : {v : ℕ} {g : PlainGlobal} {ls : List Spelt} → Table g v ls → AreLow ls → AreBelow (item_names (IsGlobal g))
  of_table (pr.constant id is also s) h = (h.0 id is, tt)
  of_table (pr.table equal left right id is s a b r c) h = (h.0 id is, tt)

  of_combine : {v : ℕ} {c : Combine} {ls : List Spelt} → SpellsCombine c v ls → AreLow ls → AreBelow (combine_names (Some c))
  of_combine (pr.combines p id a b c is) h = (h.1.1.1.0 id is, tt)

  of_param : {v : ℕ} {x : Name} {ls : List Spelt} → Param x v ls → AreLow ls → x.id < n
  of_param (pr.param id is also) h = h.1.0 id also

  of_params : {v : ℕ} {xs : List Name} {ls : List Spelt} → Params xs v ls → AreLow ls → AreBelow xs
  of_params pr.no_params h = tt
  of_params (pr.void_params is) h = tt
  of_params (pr.params s) h = of_parts Param AreBelow tt (λ x xs v ls p low rest. (of_param p low, rest)) s h

  of_parameters : {v : ℕ} {xs : List Name} {ls : List Spelt} → Parameters xs v ls → AreLow ls → AreBelow xs
  of_parameters (pr.parameters right {ls = ls} is s also) h = of_params s (front ls _ h.1)

  of_globals : (Part : PlainGlobal → ℕ → List Spelt → Type 0) → ((x : PlainGlobal) (v : ℕ) (ls : List Spelt) → Part x v ls → AreLow ls → AreBelow (item_names (IsGlobal x)))
      → {v : ℕ} {xs : List PlainGlobal} {ls : List Spelt} → Separated Part xs v ls → AreLow ls → ItemsBelow (map IsGlobal xs)
  of_globals Part part s h = of_parts Part (λ xs. ItemsBelow (map IsGlobal xs)) tt (λ x xs v ls p low rest. (part x v ls p low, rest)) s h

  of_declaration : {v : ℕ} {xs : List PlainItem} {ls : List Spelt} → Introduces xs v ls → AreLow ls → ItemsBelow xs
  of_declaration (pr.constants semicolon {ls = ls} a b s c) h = of_globals Table (λ x v ls p low. of_table p low) s (front ls _ h.1.1)
  of_declaration (pr.inputs semicolon {ls = ls} a b s c) h = of_globals (Named _) (λ x v ls p low. of_named p low) s (front ls _ h.1.1)
  of_declaration (pr.outputs semicolon {ls = ls} a b s c) h = of_globals (Scalar _ None) (λ x v ls p low. of_scalar p low tt) s (front ls _ h.1.1)
  of_declaration (pr.globals semicolon {ls = ls} a s b) h = of_globals (Scalar _ None) (λ x v ls p low. of_scalar p low tt) s (front ls _ h.1)
  of_declaration (pr.shared_globals int semicolon {ls = ls} {ms = ms} {rs = rs} a b s r c) h =
      let low = (behind ls _ h).1 in
      (of_shared s (front ms _ low) (of_combine r (front rs _ (behind ms _ low))), tt)
  of_declaration (pr.function {names = xs} {body = body} {ls = ls} gives id a b s r) h =
      let block = behind ls _ h.1.1 in
      ((h.1.0 id b, both xs (statements_names (in_order body)) (of_parameters s (front ls _ h.1.1)) (of_block r block)), tt)

  of_program : {v : ℕ} {xs : Text} {ls : List Spelt} → Programs xs v ls → AreLow ls → ItemsBelow xs
  of_program pr.no_items h = tt
  of_program (pr.more_items {xs = xs} {rest = rest} {ls = ls} s r) h = items_both xs rest (of_declaration s (front ls _ h)) (of_program r (behind ls _ h))

  text_below : (text : Text) → ItemsBelow text → AreBelow (text_names text)
  text_below [] h = tt
  text_below (i ∷ rest) h = both (item_names i) (text_names rest) h.0 (text_below rest h.1)

  member_below : (x : Name) (xs : List Name) → AreBelow xs → Member x xs → x.id < n
  member_below x [] h m = elim m [ ]
  member_below x (y ∷ xs) h here = h.0
  member_below x (y ∷ xs) h (later m) = member_below x xs h.1 m

  spelt_low : (ls : List Spelt) → AllByRecursion IsLow (tokens ls) → AreLow ls
  spelt_low [] h = tt
  spelt_low (s ∷ ls) h = (h.0, spelt_low ls h.1)

  spelled_below : (limit : ℕ) (text : Text) (ts : List Token) → IsSpelled limit text ts → AllByRecursion IsLow ts → IdsBelow text n
  spelled_below limit text ts s h =
      let low = spelt_low s.spelt (subst (AllByRecursion IsLow) (sym s.are) h) in
      λ name m. member_below name (text_names text) (text_below text (of_program s.spells low)) m

-- where the tokens are numbered by these names, so are the names of their program
pub names_below : (limit : ℕ) (text : Text) (ts : List Token) (names : List (List ℕ)) → IsSpelled limit text ts → All (IsNumbered names) ts → IdsBelow text (length names)
names_below limit text ts names s h = spelled_below (length names) limit text ts s (recursion_from_All (IsNumbered names) ts h)

there : (names : List (List ℕ)) (i : ℕ) → i < length names → slice_get names i ≡ Some (slice_index_or names i [])
there [] i h = absurd (omega arith)
there (x ∷ names) zero h = refl
there (x ∷ names) (suc i) h = there names i (omega arith)

-- no two numbers have one name
pub distinct_names : (names : List (List ℕ)) → AreDistinct names → Distinct names
distinct_names names d i j li lj e = d i j (slice_index_or names i []) (there names i li) (there names j lj ∙ ap Some (sym e))
