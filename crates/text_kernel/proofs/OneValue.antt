-- In a program that tokens spell, each name without a length is declared with one value at most. (A tree can have more.)
use Rattle.std.proofs.Common.{ℕ, ◌≡◌, refl, subst, Bool, true, false, IsTrue, Some, None, List, [], ◌∷◌, ◌++◌, map, ⊎_elim, ◌⊎◌, inl, inr}
use Rattle.forec_base.specs.declared.Place.{Place}
use Rattle.forec_tree.specs.declared.token.Token.{Token}
use Rattle.forec_tree.specs.Terms.{Terms, no_terms, more_terms, Declared, Statement, Declare, Nothing, Group, Assign, Invoke, If, While, For, Pause, Par, Abort, Return, Statements, no_statements, more_statements, Perhaps, absent, present, Branches, no_branches, by_call, by_group, Text, PlainItem, PlainGlobal, PlainFunction, IsGlobal, IsFunction}
use Rattle.forec_tree.specs.Spelling.{Spelt}
use Rattle.forec_tree.specs.Parts.{in_order, Launch, launched_before, launched, Head}
use Rattle.forec_tree.specs.SpelledStatements.{Separated, last_part, next_part, Simple, sets, updates, steps_after, steps_ahead, invokes, Declares, bare, valued, array, valued_array, ForStarts, no_start, simple_start, declared_start, ForSteps, no_step, some_step, HeadParts, head_parts, Heads, heads, SpellsStatement, acts, group, declares, if_alone, if_else, loops, counts, pauses, forks, aborts, gives_back, Block, block, SpellsStatements, no_more, and_more, SpellsBranches, forked, Starting, bare_call, call, blocked, SpellsLaunches, last_branch, next_branch}
use Rattle.forec_tree.specs.SpelledStatements as says
use Rattle.forec_tree.specs.SpelledPrograms.{Introduces, constants, inputs, outputs, globals, shared_globals, function, Programs, no_items, more_items, IsSpelled}
use Rattle.forec_tree.specs.Faults.{Member, here, later}

abbrev pub one_at_most : Terms → Bool
one_at_most no_terms = true
one_at_most (more_terms e no_terms) = true
one_at_most (more_terms e (more_terms f rest)) = false

abbrev pub one_value : Declared → Bool
one_value l = elim l.length [ Some n ↦ true | None ↦ one_at_most l.values ]

abbrev pub OneValues : List Declared → Type 0
OneValues [] = Unit {0}
OneValues (l ∷ rest) = IsTrue (one_value l) × OneValues rest

abbrev mutual
  pub OneEach : Statement → Type 0
  OneEach (Nothing at) = Unit {0}
  OneEach (Group at body) = OneInAll body
  OneEach (Declare at locals) = OneValues locals
  OneEach (Assign at target op value) = Unit {0}
  OneEach (Invoke at name args) = Unit {0}
  OneEach (If at test a b) = OneEach a × OneIfPresent b
  OneEach (While at test bound body) = OneEach body
  OneEach (For at start test step bound body) = OneIfPresent start × OneIfPresent step × OneEach body
  OneEach (Pause at) = Unit {0}
  OneEach (Par at bs) = OneInBranches bs
  OneEach (Abort at weak immediate test body) = OneInAll body
  OneEach (Return at value) = Unit {0}

  pub OneInAll : Statements → Type 0
  OneInAll no_statements = Unit {0}
  OneInAll (more_statements a rest) = OneEach a × OneInAll rest

  pub OneIfPresent : Perhaps → Type 0
  OneIfPresent absent = Unit {0}
  OneIfPresent (present a) = OneEach a

  pub OneInBranches : Branches → Type 0
  OneInBranches no_branches = Unit {0}
  OneInBranches (by_call name args rest) = OneInBranches rest
  OneInBranches (by_group at body rest) = OneInAll body × OneInBranches rest

-- each name without a length is declared with one value at most
abbrev pub ScalarsHaveOneValue : Text → Type 0
ScalarsHaveOneValue text = (f : PlainFunction) → Member (IsFunction f) text → OneInAll f.body

-- ---- simple statements and declarations

simple_one : {x : Statement} {v : ℕ} {ls : List Spelt} → Simple x v ls → OneEach x
simple_one (sets t a m w) = tt
simple_one (updates t op a m w) = tt
simple_one (steps_after t op a m) = tt
simple_one (steps_ahead op m a) = tt
simple_one (invokes id n p) = tt

declares_one : {d : Declared} {v : ℕ} {ls : List Spelt} → Declares d v ls → IsTrue (one_value d)
declares_one (bare id n) = refl
declares_one (valued id n m w) = refl
declares_one (array id n l) = refl
declares_one (valued_array equal left right id n l m c a d) = refl

locals_one : {locals : List Declared} {v : ℕ} {ls : List Spelt} → Separated Declares locals v ls → OneValues locals
locals_one (last_part d) = (declares_one d, tt)
locals_one (next_part comma d m rest) = (declares_one d, locals_one rest)

start_one : {s : Perhaps} {v : ℕ} {ls : List Spelt} → ForStarts s v ls → OneIfPresent s
start_one no_start = tt
start_one (simple_start x) = simple_one x
start_one (declared_start id w n m e) = (refl, tt)

step_one : {s : Perhaps} {v : ℕ} {ls : List Spelt} → ForSteps s v ls → OneIfPresent s
step_one no_step = tt
step_one (some_step x) = simple_one x

abbrev OneInHead : Head → Type 0
OneInHead h = OneIfPresent h.start × OneIfPresent h.step

parts_one : {h : Head} {v : ℕ} {ls : List Spelt} → HeadParts h v ls → OneInHead h
parts_one (head_parts first second s m t n e) = (start_one s, step_one e)

head_one : {h : Head} {v : ℕ} {ls : List Spelt} → Heads h v ls → OneInHead h
head_one (heads right m p n) = parts_one p

-- ---- statements

mutual
  says_one : {x : Statement} {o : Bool} {v u : ℕ} {ls : List Spelt} → SpellsStatement x o v u ls → OneEach x
  says_one (says.nothing m) = tt
  says_one (acts semicolon s m) = simple_one s
  says_one (group b) = block_one b
  says_one (declares semicolon w s m) = locals_one s
  says_one (if_alone w b f) = (says_one f, tt)
  says_one (if_else other w b f e s) = (says_one f, says_one s)
  says_one (loops w b n s) = says_one s
  says_one (counts w h n s) = let parts = head_one h in (parts.0, parts.1, says_one s)
  says_one (pauses w m) = tt
  says_one (forks semicolon w f m) = forks_one f
  says_one (aborts t when semicolon a w b n i e m) = block_one b
  says_one (gives_back semicolon w e m) = tt

  block_one : {place : Place} {body : List Statement} {v u : ℕ} {ls : List Spelt} → Block place body v u ls → OneInAll (in_order body)
  block_one (block right m l n) = lists_one l

  lists_one : {body : List Statement} {v : ℕ} {ls : List Spelt} → SpellsStatements body v ls → OneInAll (in_order body)
  lists_one no_more = tt
  lists_one (and_more s rest) = (says_one s, lists_one rest)

  forks_one : {bs : List Launch} {v : ℕ} {ls : List Spelt} → SpellsBranches bs v ls → OneInBranches (launched bs)
  forks_one (forked right m l n) = launches_one l

  starting_one : {x : Launch} {v : ℕ} {ls : List Spelt} → Starting x v ls → (rest : Branches) → OneInBranches rest → OneInBranches (launched_before x rest)
  starting_one (bare_call id n) rest h = h
  starting_one (call id n p) rest h = h
  starting_one (blocked b) rest h = (block_one b, h)

  launches_one : {bs : List Launch} {v : ℕ} {ls : List Spelt} → SpellsLaunches bs v ls → OneInBranches (launched bs)
  launches_one (last_branch s) = starting_one s no_branches tt
  launches_one (next_branch {xs = xs} comma s m rest) = starting_one s (launched xs) (launches_one rest)

-- ---- programs

member_step : (x y : PlainItem) (ys : List PlainItem) → Member x (y ∷ ys) → (x ≡ y) ⊎ Member x ys
member_step x y ys here = inl refl
member_step x y ys (later p) = inr p

member_either : (x : PlainItem) (xs ys : List PlainItem) → Member x (xs ++ ys) → Member x xs ⊎ Member x ys
member_either x [] ys p = inr p
member_either x (y ∷ xs) ys here = inl here
member_either x (y ∷ xs) ys (later p) = ⊎_elim (λ q. inl (later q)) (λ q. inr q) (member_either x xs ys p)

no_function : (f : PlainFunction) (gs : List PlainGlobal) → Member (IsFunction f) (map IsGlobal gs) → ⊥
no_function f [] p = elim p [ ]
no_function f (g ∷ gs) p = ⊎_elim (λ (e : IsFunction f ≡ IsGlobal g). cc) (λ q. no_function f gs q) (member_step (IsFunction f) (IsGlobal g) (map IsGlobal gs) p)

item_one : {xs : List PlainItem} {v : ℕ} {ls : List Spelt} → Introduces xs v ls → (f : PlainFunction) → Member (IsFunction f) xs → OneInAll f.body
item_one (constants semicolon {globals = gs} w i s m) f p = absurd (no_function f gs p)
item_one (inputs semicolon {globals = gs} w i s m) f p = absurd (no_function f gs p)
item_one (outputs semicolon {globals = gs} w i s m) f p = absurd (no_function f gs p)
item_one (globals semicolon {globals = gs} i s m) f p = absurd (no_function f gs p)
item_one (shared_globals int semicolon {global = g} s i n c m) f p = absurd (no_function f (g ∷ []) p)
item_one (function {name = name} {names = names} {body = body} gives id w n ps b) f p =
    let own : PlainFunction = record { name = Rattle.forec_tree.specs.Spelling.name_at id name.place; gives = gives; params = names; body = in_order body } in
    ⊎_elim (λ (e : IsFunction f ≡ IsFunction own). (let same : own ≡ f = cc in subst (λ (x : PlainFunction). OneInAll x.body) same (block_one b))) (λ (q : Member (IsFunction f) []). elim q [ ])
    (member_step (IsFunction f) (IsFunction own) [] p)

program_one : {xs : Text} {v : ℕ} {ls : List Spelt} → Programs xs v ls → ScalarsHaveOneValue xs
program_one no_items f p = elim p [ ]
program_one (more_items {xs = xs} {rest = rest} i r) f p =
    ⊎_elim (λ q. item_one i f q) (λ q. program_one r f q) (member_either (IsFunction f) xs rest p)

pub spelled_one : (limit : ℕ) (text : Text) (ts : List Token) → IsSpelled limit text ts → ScalarsHaveOneValue text
spelled_one limit text ts h = program_one h.spells
