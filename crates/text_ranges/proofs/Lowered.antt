-- What the numbers and places of a program have, those of its kernel have.
use Rattle.std.proofs.Common.{ℕ, zero, suc, ◌+◌, ◌≤◌, ◌==◌, ◌++◌, pos, Bool, true, false, cond, Option, Some, None, List, [], ◌∷◌, arith}
use Rattle.std.specs.Prelude.{IsTrue}
use Rattle.std.specs.List.{AllByRecursion}
use Rattle.forec_base.specs.declared.operators.Binary.{Binary}
use Rattle.forec_kernel.specs.Values.{place_or}
use Rattle.forec_kernel.specs.WellFormed.{can_divide}
use Rattle.forec_base.specs.declared.Place.{Place}
use Rattle.forec_kernel.specs.Terms as kernel
use Rattle.forec_kernel.specs.Terms.{Expr, Stmt, Stmts, no_stmts, more_stmts, Branch}
use Rattle.forec_tree.specs.declared.tree.Name.{Name}
use Rattle.forec_tree.specs.declared.tree.Number.{Number}
use Rattle.forec_tree.specs.declared.tree.OpAt.{OpAt}
use Rattle.forec_tree.specs.Scopes.{name_of, is_constant, stated_length, find_item}
use Rattle.forec_tree.specs.Pauses.{within, find_function}
use Rattle.forec_tree.specs.Terms.{Term, Num, Read, Element, Un, Bin, And, Or, Choose, Call, Terms, no_terms, more_terms, count_terms, Declared, PlainTarget, Statement, Declare, Nothing, Group, Assign, Invoke, If, While, For, Pause, Par, Abort, Return, Statements, no_statements, more_statements, Perhaps, absent, present, Branches, no_branches, by_call, by_group, PlainGlobal, PlainFunction, PlainItem, IsGlobal, IsFunction, Text}
use Rattle.forec_tree.specs.Turns.{inferred}
use Rattle.forec_tree.specs.Variables.{elements}
use Rattle.text_kernel.specs.declared.names.Slot.{Slot}
use Rattle.text_kernel.specs.declared.names.Stands.{Stands}
use Rattle.text_kernel.specs.declared.names.Stands.TheVariants as st
use Rattle.text_kernel.specs.Bindings.{number_of, find_slot, slots_of, with_local_slots, params_at, slot_stands, constant_stands, variable_stands, item_stands, first_value, is_table, number_among, variable_number}
use Rattle.text_kernel.specs.Lowering.{read_as, element_as, stands, lower_term, lower_terms, sequence, ends_with, NextNumbers, Made, Lowered, Listed, Started, as_one, lowered, from_slot, place_if, operated_expr, assign_to, assign_at, bound_of, or_inferred, after_start, then_step, par_of, par_after, array_values, lower_local, lower_locals, scope_after, scope_after_perhaps, set_params, optional_test, lower_target, Inlined, lower_statement, lower_list, lower_perhaps, lower_branches, inlined_body, inlined_step, nothing_inlined, inlined}
use Rattle.value_ranges.specs.Properties.{Property, DividesAt, ExprHolds, ExprsHolds, BranchesHolds, StmtHolds, StmtsHolds}
use Rattle.value_ranges.proofs.Lists.{all_append}
use Rattle.text_ranges.proofs.Trees.{HasSmall, TermHolds, TermsHolds, OptionHolds, OpHolds, DeclaredHolds, StatementHolds, StatementsHolds, PerhapsHolds, LaunchesHolds, NumbersHold, ItemHolds, TextHolds}

module _ (has : Property) (ok : HasSmall has) where
  zero_holds : has.OfNumber (pos 0)
  zero_holds = ok.small 0 (omega arith)

  -- ---- what names stand for

  abbrev StandsHolds : Stands → Type 0
  StandsHolds (st.AsNumber n) = has.OfNumber n
  StandsHolds _ = Unit {0}

  pub first_holds : (values : List Number) → NumbersHold has values → has.OfNumber (first_value values)
  first_holds [] h = zero_holds
  first_holds (n ∷ rest) h = h.0

  slot_holds : (s : Slot) → StandsHolds (slot_stands s)
  slot_holds s = pick s.size
    where
      pick : (size : Option ℕ) → StandsHolds (elim size [ None ↦ st.AtSlot s.slot | Some n ↦ st.AtSlots s.slot n ])
      pick None = tt
      pick (Some n) = tt

  global_holds : (text : Text) (g : PlainGlobal) → NumbersHold has g.values → StandsHolds (item_stands text (Some (IsGlobal g)))
  global_holds text g h = pick (is_constant g.kind)
    where
      as_constant : (size : Option Number) → StandsHolds (elim size [ None ↦ st.AsNumber (first_value g.values) | Some n ↦ st.AsTable (number_among is_table g.name.id text) ])
      as_constant None = first_holds g.values h
      as_constant (Some n) = tt

      as_variable : (first : ℕ) (size : Option Number) → StandsHolds (elim size [ None ↦ st.AsVariable first | Some n ↦ st.AsVariables first (elements n) ])
      as_variable first None = tt
      as_variable first (Some n) = tt

      pick : (b : Bool) → StandsHolds (cond b (constant_stands text g) (variable_stands text g))
      pick true = as_constant g.length
      pick false = as_variable (variable_number g.name.id text) (stated_length g)

  -- ---- functions

  abbrev FoundHolds : Option PlainItem → Type 0
  FoundHolds None = Unit {0}
  FoundHolds (Some i) = ItemHolds has i

  found_holds : (id : ℕ) (xs : Text) → TextHolds has xs → FoundHolds (find_item id xs)
  found_holds id [] h = tt
  found_holds id (x ∷ xs) h = pick ((name_of x).id == id) (found_holds id xs h.1)
    where
      pick : (b : Bool) → FoundHolds (find_item id xs) → FoundHolds (cond b (Some x) (find_item id xs))
      pick true g = h.0
      pick false g = g

  item_holds : (text : Text) (i : Option PlainItem) → FoundHolds i → StandsHolds (item_stands text i)
  item_holds text None h = tt
  item_holds text (Some (IsGlobal g)) h = global_holds text g h
  item_holds text (Some (IsFunction f)) h = tt

  abbrev FunctionHolds : Option PlainFunction → Type 0
  FunctionHolds None = Unit {0}
  FunctionHolds (Some f) = StatementsHolds has f.body

  function_holds : (text : Text) → TextHolds has text → (id : ℕ) → FunctionHolds (find_function id text)
  function_holds text h id = pick (find_item id text) (found_holds id text h)
    where
      pick : (i : Option PlainItem) → FoundHolds i → FunctionHolds (elim i [ None ↦ None | Some (IsGlobal g) ↦ None | Some (IsFunction f) ↦ Some f ])
      pick None g = tt
      pick (Some (IsGlobal x)) g = tt
      pick (Some (IsFunction x)) g = g

  -- ---- terms, by what names stand for

  read_holds : (x : Stands) → StandsHolds x → ExprHolds has (read_as x)
  read_holds (st.AtSlot slot) h = tt
  read_holds (st.AtSlots slot n) h = zero_holds
  read_holds (st.AsVariable v) h = tt
  read_holds (st.AsVariables v n) h = zero_holds
  read_holds (st.AsNumber n) h = h
  read_holds (st.AsTable t) h = zero_holds
  read_holds st.AsNothing h = zero_holds

  element_holds : (x : Stands) (i : Expr) (place : Place) → ExprHolds has i → has.OfPlace place → ExprHolds has (element_as x i place)
  element_holds (st.AtSlot slot) i place h p = (h, p)
  element_holds (st.AtSlots slot n) i place h p = (h, p)
  element_holds (st.AsVariable v) i place h p = (h, p)
  element_holds (st.AsVariables v n) i place h p = (h, p)
  element_holds (st.AsNumber n) i place h p = (h, p)
  element_holds (st.AsTable t) i place h p = (h, p)
  element_holds st.AsNothing i place h p = (h, p)

  divides_at : (op : Binary) (place : Place) → has.OfPlace place → DividesAt has op (place_if op place)
  divides_at op place p = pick (can_divide op)
    where
      pick : (b : Bool) → IsTrue b → has.OfPlace (place_or (cond b (Some place) None))
      pick true e = p
      pick false e = cc

  operated_holds : (op : Option OpAt) (old value : Expr) → OpHolds has op → ExprHolds has old → ExprHolds has value → ExprHolds has (operated_expr op old value)
  operated_holds None old value p h g = g
  operated_holds (Some o) old value p h g = (h, g, divides_at o.op o.place p)

  assign_holds : (x : Stands) (op : Option OpAt) (value : Expr) → OpHolds has op → ExprHolds has value → StmtHolds has (assign_to x op value)
  assign_holds (st.AtSlot slot) op value p h = operated_holds op (kernel.Local slot) value p tt h
  assign_holds (st.AtSlots slot n) op value p h = operated_holds op (kernel.Num (pos 0)) value p zero_holds h
  assign_holds (st.AsVariable v) op value p h = operated_holds op (kernel.Var v) value p tt h
  assign_holds (st.AsVariables v n) op value p h = operated_holds op (kernel.Num (pos 0)) value p zero_holds h
  assign_holds (st.AsNumber n) op value p h = operated_holds op (kernel.Num (pos 0)) value p zero_holds h
  assign_holds (st.AsTable t) op value p h = operated_holds op (kernel.Num (pos 0)) value p zero_holds h
  assign_holds st.AsNothing op value p h = operated_holds op (kernel.Num (pos 0)) value p zero_holds h

  assign_at_holds : (x : Stands) (op : Option OpAt) (i value : Expr) (place : Place) → OpHolds has op → ExprHolds has i → ExprHolds has value → has.OfPlace place →
      StmtHolds has (assign_at x op i value place)
  assign_at_holds (st.AtSlot slot) op i value place p h g q = (h, operated_holds op (kernel.LocalAt 0 0 i place) value p (h, q) g, q)
  assign_at_holds (st.AtSlots slot n) op i value place p h g q = (h, operated_holds op (kernel.LocalAt slot n i place) value p (h, q) g, q)
  assign_at_holds (st.AsVariable v) op i value place p h g q = (h, operated_holds op (kernel.LocalAt 0 0 i place) value p (h, q) g, q)
  assign_at_holds (st.AsVariables v n) op i value place p h g q = (h, operated_holds op (kernel.SharedAt v n i place) value p (h, q) g, q)
  assign_at_holds (st.AsNumber n) op i value place p h g q = (h, operated_holds op (kernel.LocalAt 0 0 i place) value p (h, q) g, q)
  assign_at_holds (st.AsTable t) op i value place p h g q = (h, operated_holds op (kernel.LocalAt 0 0 i place) value p (h, q) g, q)
  assign_at_holds st.AsNothing op i value place p h g q = (h, operated_holds op (kernel.LocalAt 0 0 i place) value p (h, q) g, q)

  -- ---- sequences

  pub sequence_holds : (list : Stmts) → StmtsHolds has list → StmtHolds has (sequence list)
  sequence_holds no_stmts h = tt
  sequence_holds (more_stmts a no_stmts) h = h.0
  sequence_holds (more_stmts a (more_stmts b rest)) h = h

  ends_holds : (list : Stmts) (a : Stmt) → StmtsHolds has list → StmtHolds has a → StmtsHolds has (ends_with list a)
  ends_holds no_stmts a h g = (g, tt)
  ends_holds (more_stmts b rest) a h g = (h.0, ends_holds rest a h.1 g)

  after_start_holds : (p : Perhaps) (start loop : Stmt) → StmtHolds has start → StmtHolds has loop → StmtHolds has (after_start p start loop)
  after_start_holds absent start loop h g = g
  after_start_holds (present a) start loop h g = (h, (g, tt))

  then_step_holds : (p : Perhaps) (body step : Stmt) → StmtHolds has body → StmtHolds has step → StmtHolds has (then_step p body step)
  then_step_holds absent body step h g = h
  then_step_holds (present a) body step h g = (h, (g, tt))

  par_holds : (bs : List Branch) → BranchesHolds has bs → StmtHolds has (par_of bs)
  par_holds [] h = tt
  par_holds (b ∷ rest) h = h

  -- ---- what is lowered

  abbrev pub MadeHolds : List Made → Type 0
  MadeHolds = AllByRecursion (λ (m : Made). StmtHolds has m.body)

  pub record LoweredHolds (l : Lowered) : Type 0 where
    pub stmt : StmtHolds has l.stmt
    pub made : MadeHolds l.made

  pub record ListedHolds (l : Listed) : Type 0 where
    pub list : StmtsHolds has l.list
    pub made : MadeHolds l.made

  record StartedHolds (l : Started) : Type 0 where
    launches : BranchesHolds has l.launches
    made : MadeHolds l.made

  one_holds : (l : Listed) → ListedHolds l → LoweredHolds (as_one l)
  one_holds l h = record { stmt = sequence_holds l.list h.list; made = h.made }

  module _ (text : Text) (all : TextHolds has text) where
    stands_holds : (s : List Slot) (id : ℕ) → StandsHolds (stands text s id)
    stands_holds s id = pick (find_slot id None s)
      where
        pick : (o : Option Slot) → StandsHolds (elim o [ Some x ↦ slot_stands x | None ↦ item_stands text (find_item id text) ])
        pick None = item_holds text (find_item id text) (found_holds id text all)
        pick (Some x) = slot_holds x

    mutual
      term_holds : (s : List Slot) (e : Term) → TermHolds has e → ExprHolds has (lower_term text s e)
      term_holds s (Num at n) h = h
      term_holds s (Read at name) h = read_holds (stands text s name.id) (stands_holds s name.id)
      term_holds s (Element at name i) h = element_holds (stands text s name.id) (lower_term text s i) name.place (term_holds s i h.0) h.1
      term_holds s (Un at op a) h = term_holds s a h
      term_holds s (Bin at op a b) h = (term_holds s a h.0, term_holds s b h.1, divides_at op at h.2)
      term_holds s (And at a b) h = (term_holds s a h.0, term_holds s b h.1)
      term_holds s (Or at a b) h = (term_holds s a h.0, term_holds s b h.1)
      term_holds s (Choose at t a b) h = (term_holds s t h.0, term_holds s a h.1, term_holds s b h.2)
      term_holds s (Call at name args) h = terms_holds s args h

      terms_holds : (s : List Slot) (es : Terms) → TermsHolds has es → ExprsHolds has (lower_terms text s es)
      terms_holds s no_terms h = tt
      terms_holds s (more_terms e rest) h = (term_holds s e h.0, terms_holds s rest h.1)

    -- ---- parts of statements

    array_holds : (s : List Slot) (slot size k : ℕ) (es : Terms) (place : Place) → TermsHolds has es → k + count_terms es ≤ 200001 → has.OfPlace place →
        StmtsHolds has (array_values text s slot size k es place)
    array_holds s slot size k no_terms place h few p = tt
    array_holds s slot size k (more_terms e rest) place h few p =
        ((ok.small k (omega arith), term_holds s e h.0, p), array_holds s slot size (suc k) rest place h.1 (omega arith) p)

    local_holds : (s : List Slot) (slot : ℕ) (name : Name) (size : Option Number) (es : Terms) → TermsHolds has es → count_terms es ≤ 200001 → has.OfPlace name.place →
        StmtHolds has (lower_local text s slot (record { name = name; length = size; values = es }))
    local_holds s slot name None no_terms h few p = tt
    local_holds s slot name None (more_terms e rest) h few p = term_holds s e h.0
    local_holds s slot name (Some n) es h few p =
        sequence_holds (more_stmts (kernel.Clear slot (number_of n)) (array_values text s slot (number_of n) 0 es name.place))
        (tt, array_holds s slot (number_of n) 0 es name.place h (omega arith) p)

    locals_holds : (s : List Slot) (slot : ℕ) (ls : List Declared) → AllByRecursion (DeclaredHolds has) ls → StmtsHolds has (lower_locals text s slot ls)
    locals_holds s slot [] h = tt
    locals_holds s slot (l ∷ rest) h =
        (local_holds s slot l.name l.length l.values h.0.values h.0.few h.0.place, locals_holds (with_local_slots s slot (l ∷ [])) (slot + slots_of l.length) rest h.1)

    params_holds : (s : List Slot) (slot : ℕ) (es : Terms) → TermsHolds has es → StmtsHolds has (set_params text s slot es)
    params_holds s slot no_terms h = tt
    params_holds s slot (more_terms e rest) h = (term_holds s e h.0, params_holds s (suc slot) rest h.1)

    test_holds : (s : List Slot) (t : Option Term) → OptionHolds has t → ExprHolds has (optional_test text s t)
    test_holds s None h = ok.small 1 (omega arith)
    test_holds s (Some e) h = term_holds s e h

    target_holds : (s : List Slot) (t : PlainTarget) (op : Option OpAt) (value : Expr) → OptionHolds has t.index → has.OfPlace t.name.place → ExprHolds has value → OpHolds has op →
        StmtHolds has (lower_target text s t op value)
    target_holds s t op value h q g p = pick t.index h
      where
        pick : (i : Option Term) → OptionHolds has i →
            StmtHolds has
            (elim i [
              | None ↦ assign_to (stands text s t.name.id) op value
              | Some e ↦ assign_at (stands text s t.name.id) op (lower_term text s e) value t.name.place
            ])
        pick None f = assign_holds (stands text s t.name.id) op value p g
        pick (Some e) f = assign_at_holds (stands text s t.name.id) op (lower_term text s e) value t.name.place p (term_holds s e f) g q

    -- ---- statements, with what void functions are that are inlined

    module _ (called : ℕ → Inlined) (calls : (id first owner : ℕ) (n : NextNumbers) → LoweredHolds (called id first owner n)) where
      mutual
        statement_holds : (t : ℕ) (s : List Slot) (n : NextNumbers) (x : Statement) → StatementHolds has x → LoweredHolds (lower_statement text called t s n x)
        statement_holds t s n (Nothing at) h = record { stmt = tt; made = tt }
        statement_holds t s n (Group at body) h = one_holds (lower_list text called t s n body) (list_holds t s n body h)
        statement_holds t s n (Declare at locals) h =
            record { stmt = sequence_holds (lower_locals text s n.slot locals) (locals_holds s n.slot locals h); made = tt }
        statement_holds t s n (Assign at target op value) h =
            record { stmt = target_holds s target op (lower_term text s value) h.0.0 h.0.1 (term_holds s value h.1) h.2; made = tt }
        statement_holds t s n (Invoke at name args) h =
            let free = from_slot n (n.slot + count_terms args) in
            let l = calls name.id n.slot t free in
            let list = set_params text s n.slot args in
            record {
              stmt =
                  sequence_holds (ends_with list (called name.id n.slot t free).stmt)
                  (ends_holds list (called name.id n.slot t free).stmt (params_holds s n.slot args h) l.stmt);
              made = l.made;
            }
        statement_holds t s n (If at test a b) h =
            let x = lower_statement text called t s n a in
            let y = lower_perhaps text called t s x.next b in
            let l = statement_holds t s n a h.1 in
            let m = perhaps_holds t s x.next b h.2 in
            record {
              stmt = (term_holds s test h.0, l.stmt, m.stmt);
              made = all_append (λ (z : Made). StmtHolds has z.body) x.made y.made l.made m.made;
            }
        statement_holds t s n (While at test bound body) h =
            let l = statement_holds t s n body h.1 in record { stmt = (term_holds s test h.0, l.stmt, h.2); made = l.made }
        statement_holds t s n (For at start test step bound body) h =
            let inside = scope_after_perhaps text s n.slot start in
            let i = lower_perhaps text called t s n start in
            let j = lower_perhaps text called t inside i.next step in
            let l = lower_statement text called t (scope_after_perhaps text inside i.next.slot step) j.next body in
            let x = perhaps_holds t s n start h.0 in
            let y = perhaps_holds t inside i.next step h.2 in
            let z = statement_holds t (scope_after_perhaps text inside i.next.slot step) j.next body h.3 in
            let turns = or_inferred (bound_of bound) (inferred text (For at start test step bound body)) in
            record {
              stmt =
                  after_start_holds start i.stmt (kernel.While (optional_test text inside test) turns (then_step step l.stmt j.stmt) at) x.stmt
                  (test_holds inside test h.1, then_step_holds step l.stmt j.stmt z.stmt y.stmt, h.4);
              made =
                  all_append (λ (m : Made). StmtHolds has m.body) i.made (j.made ++ l.made) x.made
                  (all_append (λ (m : Made). StmtHolds has m.body) j.made l.made y.made z.made);
            }
        statement_holds t s n (Pause at) h = record { stmt = tt; made = tt }
        statement_holds t s n (Par at bs) h =
            let free : NextNumbers = record { slot = n.slot; thread = n.thread; par = par_after bs n.par } in
            let l = branches_holds t s n.par free bs h in
            record { stmt = par_holds (lower_branches text called t s n.par free bs).launches l.launches; made = l.made }
        statement_holds t s n (Abort at weak immediate test body) h =
            let l = list_holds t s n body h.1 in
            record { stmt = (term_holds s test h.0, sequence_holds (lower_list text called t s n body).list l.list); made = l.made }
        statement_holds t s n (Return at value) h = record { stmt = term_holds s value h; made = tt }

        list_holds : (t : ℕ) (s : List Slot) (n : NextNumbers) (xs : Statements) → StatementsHolds has xs → ListedHolds (lower_list text called t s n xs)
        list_holds t s n no_statements h = record { list = tt; made = tt }
        list_holds t s n (more_statements a rest) h =
            let x = lower_statement text called t s n a in
            let y = lower_list text called t (scope_after text s n.slot a) x.next rest in
            let l = statement_holds t s n a h.0 in
            let m = list_holds t (scope_after text s n.slot a) x.next rest h.1 in
            record { list = (l.stmt, m.list); made = all_append (λ (z : Made). StmtHolds has z.body) x.made y.made l.made m.made }

        perhaps_holds : (t : ℕ) (s : List Slot) (n : NextNumbers) (x : Perhaps) → PerhapsHolds has x → LoweredHolds (lower_perhaps text called t s n x)
        perhaps_holds t s n absent h = record { stmt = tt; made = tt }
        perhaps_holds t s n (present a) h = statement_holds t s n a h

        branches_holds : (t : ℕ) (s : List Slot) (p : ℕ) (n : NextNumbers) (bs : Branches) → LaunchesHolds has bs → StartedHolds (lower_branches text called t s p n bs)
        branches_holds t s p n no_branches h = record { launches = tt; made = tt }
        branches_holds t s p n (by_call name args rest) h =
            let inner : NextNumbers = record { slot = count_terms args; thread = suc n.thread; par = n.par } in
            let b = called name.id 0 n.thread inner in
            let next : NextNumbers = record { slot = n.slot; thread = b.next.thread; par = b.next.par } in
            let l = calls name.id 0 n.thread inner in
            let m = branches_holds t s p next rest h.1 in
            record {
              launches = (terms_holds s args h.0, m.launches);
              made = (l.stmt, all_append (λ (z : Made). StmtHolds has z.body) b.made (lower_branches text called t s p next rest).made l.made m.made);
            }
        branches_holds t s p n (by_group at body rest) h =
            let inner : NextNumbers = record { slot = 0; thread = suc n.thread; par = n.par } in
            let b = lower_list text called n.thread [] inner body in
            let next : NextNumbers = record { slot = n.slot; thread = b.next.thread; par = b.next.par } in
            let l = list_holds n.thread [] inner body h.0 in
            let m = branches_holds t s p next rest h.1 in
            record {
              launches = (tt, m.launches);
              made = (
                sequence_holds b.list l.list,
                all_append (λ (z : Made). StmtHolds has z.body) b.made (lower_branches text called t s p next rest).made l.made m.made,
              );
            }

    -- the statements of an int function, which inlines nothing, are such too
    pub nothing_holds : (id first owner : ℕ) (n : NextNumbers) → LoweredHolds (lowered (sequence no_stmts) n)
    nothing_holds id first owner n = record { stmt = tt; made = tt }

    pub body_holds : (t : ℕ) (s : List Slot) (n : NextNumbers) (xs : Statements) → StatementsHolds has xs →
        ListedHolds (lower_list text (λ id first t n. lowered (sequence no_stmts) n) t s n xs)
    body_holds t s n xs h = list_holds (λ id first t n. lowered (sequence no_stmts) n) nothing_holds t s n xs h

    -- ---- void functions, inlined

    function_inlined : (called : ℕ → Inlined) → ((id first owner : ℕ) (n : NextNumbers) → LoweredHolds (called id first owner n)) → (f : Option PlainFunction) →
        FunctionHolds f → (first t : ℕ) (n : NextNumbers) → LoweredHolds (inlined_body text called f first t n)
    function_inlined called calls None h first t n = record { stmt = tt; made = tt }
    function_inlined called calls (Some f) h first t n =
        one_holds (lower_list text called t (params_at first f.params) n f.body) (list_holds called calls t (params_at first f.params) n f.body h)

    within_holds : (deep id first owner : ℕ) (n : NextNumbers) → LoweredHolds (within nothing_inlined (inlined_step text) deep id first owner n)
    unfolding within
    within_holds zero id first owner n = record { stmt = tt; made = tt }
    within_holds (suc deep) id first owner n =
        function_inlined (within nothing_inlined (inlined_step text) deep) (λ i f o m. within_holds deep i f o m) (find_function id text)
        (function_holds text all id) first owner n

    pub inlined_holds : (id first owner : ℕ) (n : NextNumbers) → LoweredHolds (inlined text id first owner n)
    inlined_holds id first owner n = within_holds _ id first owner n
