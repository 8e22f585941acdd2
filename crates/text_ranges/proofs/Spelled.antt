-- The numbers and places of a program that is spelled have what those of its tokens have.
use Rattle.std.proofs.Common.{ℕ, ◌+◌, ◌≤◌, Bool, Option, List, [], ◌∷◌, ◌++◌, map, length, length-append, arith}
use Rattle.std.specs.List.{AllByRecursion}
use Rattle.forec_base.specs.declared.Place.{Place}
use Rattle.forec_tree.specs.declared.operators.Operator.{Operator}
use Rattle.forec_tree.specs.declared.operators.Operator.TheVariants as oper
use Rattle.forec_tree.specs.declared.token.Token.{Token}
use Rattle.forec_tree.specs.declared.tree.Combine.{Combine}
use Rattle.forec_tree.specs.declared.tree.GlobalKind.{GlobalKind}
use Rattle.forec_tree.specs.declared.tree.Number.{Number}
use Rattle.forec_tree.specs.Terms.{Term, count_terms, Declared, PlainTarget, Statement, Perhaps, Branches, no_branches, PlainGlobal, PlainItem, IsGlobal, Text}
use Rattle.forec_tree.specs.Spelling.{Spelt, at, operator_term, listed, Spells, number, read, element, unary, binary, choose, bracketed, Whole, whole, Brackets, brackets, SpellsIndex, indexes, SpellsArguments, passes_none, passes, SpellsExpressions, one, more}
use Rattle.forec_tree.specs.Spelling as spell
use Rattle.forec_tree.specs.Parts.{in_order, Launch, launched_before, launched, Head}
use Rattle.forec_tree.specs.SpelledStatements.{Separated, last_part, next_part, Targets, scalar, indexed, Simple, sets, updates, steps_after, steps_ahead, invokes, Declares, bare, valued, array, valued_array, ForStarts, no_start, simple_start, declared_start, Tests, no_test, some_test, ForSteps, no_step, some_step, HeadParts, head_parts, Heads, heads, SpellsStatement, acts, group, declares, if_alone, if_else, loops, counts, pauses, forks, aborts, gives_back, Block, block, SpellsStatements, no_more, and_more, SpellsBranches, forked, Starting, bare_call, call, blocked, SpellsLaunches, last_branch, next_branch}
use Rattle.forec_tree.specs.SpelledStatements as says
use Rattle.forec_tree.specs.SpelledPrograms.{Signed, positive, negative, Named, named, Scalar, unset, set, Table, constant, table, SharedVariable, Introduces, constants, inputs, outputs, globals, shared_globals, function, Programs, no_items, more_items, IsSpelled}
use Rattle.forec_tree.specs.SpelledPrograms as spelled
use Rattle.value_ranges.specs.Properties.{Property}
use Rattle.value_ranges.proofs.Lists.{all_append}
use Rattle.text_ranges.proofs.Tokens.{SpeltHolds, behind, front, back}
use Rattle.text_ranges.proofs.Trees.{HasSmall, TermHolds, TermsHolds, OptionHolds, DeclaredHolds, StatementHolds, StatementsHolds, PerhapsHolds, LaunchesHolds, NumbersHold, ItemHolds, TextHolds}

module _ (has : Property) (ok : HasSmall has) where
  -- ---- expressions

  joined_holds : (op : Operator) (place : Place) (left right : Term) → TermHolds has left → TermHolds has right → has.OfPlace place → TermHolds has (operator_term op place left right)
  joined_holds oper.Or place left right h g p = (h, g)
  joined_holds oper.And place left right h g p = (h, g)
  joined_holds (oper.Computes op) place left right h g p = (h, g, p)

  mutual
    spells_holds : {n : ℕ} {e : Term} {v : ℕ} {ls : List Spelt} {w : ℕ} → Spells n e v ls w → SpeltHolds has ls → TermHolds has e
    spells_holds (number value is) h = h.each.0.number value is
    spells_holds (read id is) h = tt
    spells_holds (element id is i) h = (indexes_holds i (behind has h), h.each.0.place)
    spells_holds (spell.call id is p) h = passes_holds p (behind has h)
    spells_holds (bracketed b) h = brackets_holds b h
    spells_holds (unary op l m p) h = spells_holds p (behind has h)
    spells_holds (binary {w = w} t {left = left} {right = right} {ls = ls} {rs = rs} op l a m b) h =
        joined_holds op t.place left right (spells_holds a (front has ls (at t (w + 1) ∷ rs) h)) (spells_holds b (behind has (back has ls (at t (w + 1) ∷ rs) h))) (back has ls (at t (w + 1) ∷ rs) h).each.0.place
    spells_holds (choose {w = w} {x = x} t colon {ls = ls} {ms = ms} {rs = rs} l a m b n c) h =
        let late = behind has (back has ls (at t (w + 1) ∷ (ms ++ (at colon x ∷ rs))) h) in (
          spells_holds a (front has ls (at t (w + 1) ∷ (ms ++ (at colon x ∷ rs))) h),
          spells_holds b (front has ms (at colon x ∷ rs) late),
          spells_holds c (behind has (back has ms (at colon x ∷ rs) late)),
        )

    whole_holds : {e : Term} {v : ℕ} {ls : List Spelt} → Whole e v ls → SpeltHolds has ls → TermHolds has e
    whole_holds (whole s) h = spells_holds s h

    brackets_holds : {e : Term} {v : ℕ} {ls : List Spelt} → Brackets e v ls → SpeltHolds has ls → TermHolds has e
    brackets_holds (brackets {v = v} right {ls = ls} m e n) h = whole_holds e (front has ls (at right v ∷ []) (behind has h))

    indexes_holds : {e : Term} {v : ℕ} {ls : List Spelt} → SpellsIndex e v ls → SpeltHolds has ls → TermHolds has e
    indexes_holds (indexes {v = v} right {ls = ls} m e n) h = whole_holds e (front has ls (at right v ∷ []) (behind has h))

    passes_holds : {args : List Term} {v : ℕ} {ls : List Spelt} → SpellsArguments args v ls → SpeltHolds has ls → TermsHolds has (listed args)
    passes_holds (passes_none m n) h = tt
    passes_holds (passes {v = v} right {ls = ls} m a n) h = arguments_holds a (front has ls (at right v ∷ []) (behind has h))

    arguments_holds : {args : List Term} {v : ℕ} {ls : List Spelt} → SpellsExpressions args v ls → SpeltHolds has ls → TermsHolds has (listed args)
    arguments_holds (one e) h = (whole_holds e h, tt)
    arguments_holds (more {v = v} comma {ls = ls} {rs = rs} e m a) h =
        (whole_holds e (front has ls (at comma v ∷ rs) h), arguments_holds a (behind has (back has ls (at comma v ∷ rs) h)))

  -- a comma stands between each two
  arguments_few : {args : List Term} {v : ℕ} {ls : List Spelt} → SpellsExpressions args v ls → count_terms (listed args) ≤ length ls + 1
  arguments_few (one e) = omega arith
  arguments_few (more {v = v} comma {ls = ls} {rs = rs} e m a) = let n = arguments_few a in omega (arith, length-append ls (at comma v ∷ rs), n)

  -- ---- parts with commas between them

  module _ {A : Type 0} (Part : A → ℕ → List Spelt → Type 0) (P : A → Type 0) (each : (x : A) (v : ℕ) (ls : List Spelt) → Part x v ls → SpeltHolds has ls → P x) where
    separated_holds : {xs : List A} {v : ℕ} {ls : List Spelt} → Separated Part xs v ls → SpeltHolds has ls → AllByRecursion P xs
    separated_holds (last_part {v = v} {x = x} {ls = ls} p) h = (each x v ls p h, tt)
    separated_holds (next_part {v = v} {x = x} comma {ls = ls} {rs = rs} p m rest) h =
        (each x v ls p (front has ls (at comma v ∷ rs) h), separated_holds rest (behind has (back has ls (at comma v ∷ rs) h)))

  -- ---- simple statements and declarations

  targets_holds : {t : PlainTarget} {v : ℕ} {ls : List Spelt} → Targets t v ls → SpeltHolds has ls → OptionHolds has t.index × has.OfPlace t.name.place
  targets_holds (scalar id n) h = (tt, h.each.0.place)
  targets_holds (indexed id n i) h = (indexes_holds i (behind has h), h.each.0.place)

  simple_holds : {x : Statement} {v : ℕ} {ls : List Spelt} → Simple x v ls → SpeltHolds has ls → StatementHolds has x
  simple_holds (sets {v = v} t {ts = ts} {ls = ls} a m e) h =
      (targets_holds a (front has ts (at t v ∷ ls) h), whole_holds e (behind has (back has ts (at t v ∷ ls) h)), tt)
  simple_holds (updates {v = v} t {ts = ts} {ls = ls} op a m e) h =
      let late = back has ts (at t v ∷ ls) h in (targets_holds a (front has ts (at t v ∷ ls) h), whole_holds e (behind has late), late.each.0.place)
  simple_holds (steps_after {v = v} t {ts = ts} op a m) h = (targets_holds a (front has ts (at t v ∷ []) h), ok.small 1 (omega arith), (back has ts (at t v ∷ []) h).each.0.place)
  simple_holds (steps_ahead op m a) h = (targets_holds a (behind has h), ok.small 1 (omega arith), h.each.0.place)
  simple_holds (invokes id n p) h = passes_holds p (behind has h)

  declares_holds : {d : Declared} {v : ℕ} {ls : List Spelt} → Declares d v ls → SpeltHolds has ls → DeclaredHolds has d
  declares_holds (bare id n) h = record { values = tt; place = h.each.0.place; few = omega arith }
  declares_holds (valued id n m e) h = record { values = (whole_holds e (behind has (behind has h)), tt); place = h.each.0.place; few = omega arith }
  declares_holds (array id n l) h = record { values = tt; place = h.each.0.place; few = omega arith }
  declares_holds (valued_array {v = v} equal left right {ls = ls} {rs = rs} id n l m c a d) h =
      let inside = front has rs (at right v ∷ []) (behind has (behind has (back has ls (at equal v ∷ at left (v + 1) ∷ (rs ++ (at right v ∷ []))) (behind has h)))) in
      let count = arguments_few a in
      let few = inside.few in
      record { values = arguments_holds a inside; place = h.each.0.place; few = omega arith }

  start_holds : {s : Perhaps} {v : ℕ} {ls : List Spelt} → ForStarts s v ls → SpeltHolds has ls → PerhapsHolds has s
  start_holds no_start h = tt
  start_holds (simple_start x) h = simple_holds x h
  start_holds (declared_start id w n m e) h = (record { values = (whole_holds e (behind has (behind has (behind has h))), tt); place = h.each.1.0.place; few = omega arith }, tt)

  test_holds : {t : Option Term} {v : ℕ} {ls : List Spelt} → Tests t v ls → SpeltHolds has ls → OptionHolds has t
  test_holds no_test h = tt
  test_holds (some_test e) h = whole_holds e h

  step_holds : {s : Perhaps} {v : ℕ} {ls : List Spelt} → ForSteps s v ls → SpeltHolds has ls → PerhapsHolds has s
  step_holds no_step h = tt
  step_holds (some_step x) h = simple_holds x h

  abbrev HeadHolds : Head → Type 0
  HeadHolds head = PerhapsHolds has head.start × OptionHolds has head.test × PerhapsHolds has head.step

  parts_holds : {head : Head} {v : ℕ} {ls : List Spelt} → HeadParts head v ls → SpeltHolds has ls → HeadHolds head
  parts_holds (head_parts {v = v} first second {ls = ls} {ms = ms} {rs = rs} s m t n e) h =
      let late = behind has (back has ls (at first v ∷ (ms ++ (at second v ∷ rs))) h) in (
        start_holds s (front has ls (at first v ∷ (ms ++ (at second v ∷ rs))) h),
        test_holds t (front has ms (at second v ∷ rs) late),
        step_holds e (behind has (back has ms (at second v ∷ rs) late)),
      )

  head_holds : {head : Head} {v : ℕ} {ls : List Spelt} → Heads head v ls → SpeltHolds has ls → HeadHolds head
  head_holds (heads {v = v} right {ls = ls} m p n) h = parts_holds p (front has ls (at right v ∷ []) (behind has h))

  -- ---- statements

  mutual
    says_holds : {x : Statement} {o : Bool} {v u : ℕ} {ls : List Spelt} → SpellsStatement x o v u ls → SpeltHolds has ls → StatementHolds has x
    says_holds (says.nothing m) h = tt
    says_holds (acts {u = u} semicolon {ls = ls} s m) h = simple_holds s (front has ls (at semicolon u ∷ []) h)
    says_holds (group b) h = block_holds b h
    says_holds (declares {u = u} semicolon {ls = ls} w s m) h =
        separated_holds Declares (DeclaredHolds has) (λ x v ls p g. declares_holds p g) s (front has ls (at semicolon u ∷ []) (behind has h))
    says_holds (if_alone {ls = ls} {ms = ms} w b f) h =
        (brackets_holds b (front has ls ms (behind has h)), says_holds f (back has ls ms (behind has h)), tt)
    says_holds (if_else {v = v} other {ls = ls} {ms = ms} {rs = rs} w b f e s) h =
        let late = back has ls (ms ++ (at other (v + 1 + 1) ∷ rs)) (behind has h) in (
          brackets_holds b (front has ls (ms ++ (at other (v + 1 + 1) ∷ rs)) (behind has h)),
          says_holds f (front has ms (at other (v + 1 + 1) ∷ rs) late),
          says_holds s (behind has (back has ms (at other (v + 1 + 1) ∷ rs) late)),
        )
    says_holds (loops {ls = ls} {ms = ms} {rs = rs} w b n s) h =
        (brackets_holds b (front has ls (ms ++ rs) (behind has h)), says_holds s (back has ms rs (back has ls (ms ++ rs) (behind has h))), h.each.0.place)
    says_holds (counts {ls = ls} {ms = ms} {rs = rs} w p n s) h =
        let parts = head_holds p (front has ls (ms ++ rs) (behind has h)) in
        (parts.0, parts.1, parts.2, says_holds s (back has ms rs (back has ls (ms ++ rs) (behind has h))), h.each.0.place)
    says_holds (pauses w m) h = tt
    says_holds (forks {u = u} semicolon {ls = ls} w f m) h = forks_holds f (front has ls (at semicolon u ∷ []) (behind has h))
    says_holds (aborts {v = v} {u = u} t when semicolon {ws = ws} {ls = ls} {is = is} {ms = ms} a w b n i e m) h =
        let last = ms ++ (at semicolon u ∷ []) in
        let late = behind has (back has ws (at t (v + 1) ∷ (ls ++ (at when (v + 1) ∷ (is ++ last)))) h) in
        let later = behind has (back has ls (at when (v + 1) ∷ (is ++ last)) late) in (
          brackets_holds e (front has ms (at semicolon u ∷ []) (back has is last later)),
          block_holds b (front has ls (at when (v + 1) ∷ (is ++ last)) late),
        )
    says_holds (gives_back {u = u} semicolon {ls = ls} w e m) h = whole_holds e (front has ls (at semicolon u ∷ []) (behind has h))

    block_holds : {place : Place} {body : List Statement} {v u : ℕ} {ls : List Spelt} → Block place body v u ls → SpeltHolds has ls → StatementsHolds has (in_order body)
    block_holds (block {u = u} right {ls = ls} m l n) h = lists_holds l (front has ls (at right u ∷ []) (behind has h))

    lists_holds : {body : List Statement} {v : ℕ} {ls : List Spelt} → SpellsStatements body v ls → SpeltHolds has ls → StatementsHolds has (in_order body)
    lists_holds no_more h = tt
    lists_holds (and_more {ls = ls} {rs = rs} s rest) h = (says_holds s (front has ls rs h), lists_holds rest (back has ls rs h))

    forks_holds : {bs : List Launch} {v : ℕ} {ls : List Spelt} → SpellsBranches bs v ls → SpeltHolds has ls → LaunchesHolds has (launched bs)
    forks_holds (forked {v = v} right {ls = ls} m l n) h = launches_holds l (front has ls (at right v ∷ []) (behind has h))

    starting_holds : {x : Launch} {v : ℕ} {ls : List Spelt} → Starting x v ls → SpeltHolds has ls → (rest : Branches) → LaunchesHolds has rest → LaunchesHolds has (launched_before x rest)
    starting_holds (bare_call id n) h rest g = (tt, g)
    starting_holds (call id n p) h rest g = (passes_holds p (behind has h), g)
    starting_holds (blocked b) h rest g = (block_holds b h, g)

    launches_holds : {bs : List Launch} {v : ℕ} {ls : List Spelt} → SpellsLaunches bs v ls → SpeltHolds has ls → LaunchesHolds has (launched bs)
    launches_holds (last_branch s) h = starting_holds s h no_branches tt
    launches_holds (next_branch {v = v} {xs = xs} comma {ls = ls} {rs = rs} s m rest) h =
        starting_holds s (front has ls (at comma v ∷ rs) h) (launched xs) (launches_holds rest (behind has (back has ls (at comma v ∷ rs) h)))

  -- ---- globals

  signed_holds : {n : Number} {v : ℕ} {ls : List Spelt} → Signed n v ls → SpeltHolds has ls → has.OfNumber n.value
  signed_holds (positive value is) h = h.each.0.number value is
  signed_holds (negative value m is) h = ok.minus value (h.each.1.0.number value is)

  abbrev GlobalHolds : PlainGlobal → Type 0
  GlobalHolds g = NumbersHold has g.values

  named_holds : {kind : GlobalKind} {g : PlainGlobal} {v : ℕ} {ls : List Spelt} → Named kind g v ls → SpeltHolds has ls → GlobalHolds g
  named_holds (named id n) h = tt

  scalar_holds : {kind : GlobalKind} {combine : Option Combine} {g : PlainGlobal} {v : ℕ} {ls : List Spelt} → Scalar kind combine g v ls → SpeltHolds has ls → GlobalHolds g
  scalar_holds (unset id n) h = tt
  scalar_holds (set id n m s) h = (signed_holds s (behind has (behind has h)), tt)

  values_holds : {values : List Number} {v : ℕ} {ls : List Spelt} → Separated Signed values v ls → SpeltHolds has ls → NumbersHold has values
  values_holds s h = separated_holds Signed (λ (n : Number). has.OfNumber n.value) (λ x v ls p g. signed_holds p g) s h

  table_holds : {g : PlainGlobal} {v : ℕ} {ls : List Spelt} → Table g v ls → SpeltHolds has ls → GlobalHolds g
  table_holds (constant id n m s) h = (signed_holds s (behind has (behind has h)), tt)
  table_holds (table {v = v} equal left right {ls = ls} {rs = rs} id n l m c s d) h =
      values_holds s (front has rs (at right v ∷ []) (behind has (behind has (back has ls (at equal v ∷ at left (v + 1) ∷ (rs ++ (at right v ∷ []))) (behind has h)))))

  shared_holds : {kind : GlobalKind} {combine : Option Combine} {g : PlainGlobal} {v : ℕ} {ls : List Spelt} → SharedVariable kind combine g v ls → SpeltHolds has ls → GlobalHolds g
  shared_holds (spelled.one s) h = scalar_holds s h
  shared_holds (spelled.array id n l) h = tt
  shared_holds (spelled.valued_array {v = v} equal left right {ls = ls} {rs = rs} id n l m c s d) h =
      values_holds s (front has rs (at right v ∷ []) (behind has (behind has (back has ls (at equal v ∷ at left (v + 1) ∷ (rs ++ (at right v ∷ []))) (behind has h)))))

  -- ---- programs

  globals_holds : (gs : List PlainGlobal) → AllByRecursion GlobalHolds gs → TextHolds has (map IsGlobal gs)
  globals_holds [] h = tt
  globals_holds (g ∷ gs) h = (h.0, globals_holds gs h.1)

  items_holds : {xs : List PlainItem} {v : ℕ} {ls : List Spelt} → Introduces xs v ls → SpeltHolds has ls → TextHolds has xs
  items_holds (constants {v = v} semicolon {globals = gs} {ls = ls} w i s m) h =
      globals_holds gs (separated_holds Table GlobalHolds (λ x v ls p g. table_holds p g) s (front has ls (at semicolon v ∷ []) (behind has (behind has h))))
  items_holds (inputs {v = v} semicolon {globals = gs} {ls = ls} w i s m) h =
      globals_holds gs (separated_holds _ GlobalHolds (λ x v ls p g. named_holds p g) s (front has ls (at semicolon v ∷ []) (behind has (behind has h))))
  items_holds (outputs {v = v} semicolon {globals = gs} {ls = ls} w i s m) h =
      globals_holds gs (separated_holds _ GlobalHolds (λ x v ls p g. scalar_holds p g) s (front has ls (at semicolon v ∷ []) (behind has (behind has h))))
  items_holds (globals {v = v} semicolon {globals = gs} {ls = ls} i s m) h =
      globals_holds gs (separated_holds _ GlobalHolds (λ x v ls p g. scalar_holds p g) s (front has ls (at semicolon v ∷ []) (behind has h)))
  items_holds (shared_globals {v = v} int semicolon {ls = ls} {ms = ms} {rs = rs} s i n c m) h =
      let late = behind has (back has ls (at int v ∷ (ms ++ (rs ++ (at semicolon v ∷ [])))) h) in (shared_holds n (front has ms (rs ++ (at semicolon v ∷ [])) late), tt)
  items_holds (function {ls = ls} {ms = ms} gives id w n ps b) h = (block_holds b (back has ls ms (behind has (behind has h))), tt)

  program_holds : {xs : Text} {v : ℕ} {ls : List Spelt} → Programs xs v ls → SpeltHolds has ls → TextHolds has xs
  program_holds no_items h = tt
  program_holds (more_items {xs = xs} {rest = rest} {ls = ls} {rs = rs} i r) h =
      all_append (ItemHolds has) xs rest (items_holds i (front has ls rs h)) (program_holds r (back has ls rs h))

  pub spelled_holds : (limit : ℕ) (text : Text) (ts : List Token) → (s : IsSpelled limit text ts) → SpeltHolds has s.spelt → TextHolds has text
  spelled_holds limit text ts s h = program_holds s.spells h
