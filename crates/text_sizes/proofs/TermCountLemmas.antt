-- The count on the text is the count of the kernel's terms.
use Rattle.std.proofs.Common.{ℕ, suc, ◌+◌, ◌≡◌, ◌∙◌, ap, refl, Option, Some, None, List, [], ◌∷◌, length, arith}
use Rattle.forec_base.specs.declared.Place.{Place}
use Rattle.forec_tree.specs.declared.tree.OpAt.{OpAt}
use Rattle.forec_tree.specs.declared.tree.Number.{Number}
use Rattle.forec_tree.specs.Terms.{Term, Num, Read, Element, Un, Bin, And, Or, Choose, Call, Terms, no_terms, more_terms, count_terms, Declared, PlainTarget, Statement, Declare, Nothing, Group, Assign, Invoke, If, While, For, Pause, Par, Abort, Return, Statements, no_statements, more_statements, Perhaps, absent, present, Branches, no_branches, by_call, by_group, Text}
use Rattle.forec_kernel.specs.Terms as kernel
use Rattle.forec_kernel.specs.Terms.{Expr, Branch, Stmt, Stmts, no_stmts, more_stmts}
use Rattle.forec_kernel.specs.Weight.{expr_weight, exprs_weight, branches_weight}
use Rattle.forec_kernel.specs.WellFormed.{stmt_terms, stmts_terms}
use Rattle.text_kernel.specs.declared.names.Slot.{Slot}
use Rattle.text_kernel.specs.declared.names.Stands.{Stands}
use Rattle.text_kernel.specs.declared.names.Stands.TheVariants as st
use Rattle.text_kernel.specs.Bindings.{with_local_slots, slots_of, number_of}
use Rattle.text_kernel.specs.Lowering as low
use Rattle.text_kernel.specs.Lowering.{read_as, element_as, stands, lower_term, lower_terms, sequence, ends_with, operated_expr, assign_to, assign_at, array_values, lower_local, lower_locals, set_params, optional_test, lower_target, lower_statement, lower_list, lower_perhaps, lower_branches, scope_after, scope_after_perhaps, after_start, then_step, par_of, par_after, NextNumbers, Inlined}
use Rattle.text_sizes.specs.TermCounts.{term_count, terms_count, sequence_count, values_count, first_count, local_count, locals_count, operated_count, assign_count, sets_count, optional_count, branches_count, statement_count, own, own_all, own_perhaps, own_start, own_step}

read_weight : (x : Stands) → expr_weight (read_as x) ≡ 1
read_weight (st.AtSlot slot) = refl
read_weight (st.AtSlots slot size) = refl
read_weight (st.AsVariable v) = refl
read_weight (st.AsVariables v n) = refl
read_weight (st.AsNumber n) = refl
read_weight (st.AsTable t) = refl
read_weight st.AsNothing = refl

element_weight : (x : Stands) (i : Expr) (place : Place) → expr_weight (element_as x i place) ≡ 1 + expr_weight i
element_weight (st.AtSlot slot) i place = refl
element_weight (st.AtSlots slot size) i place = refl
element_weight (st.AsVariable v) i place = refl
element_weight (st.AsVariables v n) i place = refl
element_weight (st.AsNumber n) i place = refl
element_weight (st.AsTable t) i place = refl
element_weight st.AsNothing i place = refl

module _ (text : Text) where
  mutual
    pub term_weight : (s : List Slot) (e : Term) → expr_weight (lower_term text s e) ≡ term_count e
    term_weight s (Num at n) = refl
    term_weight s (Read at name) = read_weight (stands text s name.id)
    term_weight s (Element at name i) = element_weight (stands text s name.id) (lower_term text s i) name.place ∙ ap (λ n. 1 + n) (term_weight s i)
    term_weight s (Un at op a) = omega (arith, term_weight s a)
    term_weight s (Bin at op a b) = omega (arith, term_weight s a, term_weight s b)
    term_weight s (And at a b) = omega (arith, term_weight s a, term_weight s b)
    term_weight s (Or at a b) = omega (arith, term_weight s a, term_weight s b)
    term_weight s (Choose at t a b) = omega (arith, term_weight s t, term_weight s a, term_weight s b)
    term_weight s (Call at name args) = omega (arith, terms_weight s args)

    pub terms_weight : (s : List Slot) (es : Terms) → exprs_weight (lower_terms text s es) ≡ terms_count es
    terms_weight s no_terms = refl
    terms_weight s (more_terms e rest) = omega (arith, term_weight s e, terms_weight s rest)

abbrev pub stmts_length : Stmts → ℕ
stmts_length no_stmts = 0
stmts_length (more_stmts a rest) = suc (stmts_length rest)

pub sequence_terms : (list : Stmts) → stmt_terms (sequence list) ≡ sequence_count (stmts_length list) (stmts_terms list)
sequence_terms no_stmts = refl
sequence_terms (more_stmts a no_stmts) = omega arith
sequence_terms (more_stmts a (more_stmts b rest)) = refl

pub sequence_as : (list : Stmts) (n m : ℕ) → stmts_length list ≡ n → stmts_terms list ≡ m → stmt_terms (sequence list) ≡ sequence_count n m
sequence_as list n m h g = sequence_terms list ∙ ap (λ k. sequence_count k (stmts_terms list)) h ∙ ap (sequence_count n) g

pub ends_length : (list : Stmts) (a : Stmt) → stmts_length (ends_with list a) ≡ suc (stmts_length list)
ends_length no_stmts a = refl
ends_length (more_stmts b rest) a = ap suc (ends_length rest a)

ends_terms : (list : Stmts) (a : Stmt) → stmts_terms (ends_with list a) ≡ stmts_terms list + stmt_terms a
ends_terms no_stmts a = omega arith
ends_terms (more_stmts b rest) a = omega (arith, ends_terms rest a)

operated_weight : (op : Option OpAt) (old value : Expr) (m n : ℕ) → expr_weight old ≡ m → expr_weight value ≡ n → expr_weight (operated_expr op old value) ≡ operated_count op m n
operated_weight None old value m n h g = g
operated_weight (Some o) old value m n h g = omega arith

assign_terms : (x : Stands) (op : Option OpAt) (value : Expr) (n : ℕ) → expr_weight value ≡ n → stmt_terms (assign_to x op value) ≡ 1 + operated_count op 1 n
assign_terms (st.AtSlot slot) op value n g = ap (λ k. 1 + k) (operated_weight op (kernel.Local slot) value 1 n refl g)
assign_terms (st.AsVariable v) op value n g = ap (λ k. 1 + k) (operated_weight op (kernel.Var v) value 1 n refl g)
assign_terms (st.AtSlots slot size) op value n g = ap (λ k. 1 + k) (operated_weight op _ value 1 n refl g)
assign_terms (st.AsVariables v k) op value n g = ap (λ k. 1 + k) (operated_weight op _ value 1 n refl g)
assign_terms (st.AsNumber m) op value n g = ap (λ k. 1 + k) (operated_weight op _ value 1 n refl g)
assign_terms (st.AsTable t) op value n g = ap (λ k. 1 + k) (operated_weight op _ value 1 n refl g)
assign_terms st.AsNothing op value n g = ap (λ k. 1 + k) (operated_weight op _ value 1 n refl g)

at_terms : (x : Stands) (op : Option OpAt) (i value : Expr) (place : Place) (m n : ℕ) → expr_weight i ≡ m → expr_weight value ≡ n →
    stmt_terms (assign_at x op i value place) ≡ 1 + m + operated_count op (1 + m) n
at_terms (st.AtSlots slot size) op i value place m n h g =
    let e = operated_weight op (kernel.LocalAt slot size i place) value (1 + m) n (ap (λ k. 1 + k) h) g in omega (arith, e, h)
at_terms (st.AsVariables v k) op i value place m n h g =
    let e = operated_weight op (kernel.SharedAt v k i place) value (1 + m) n (ap (λ k. 1 + k) h) g in omega (arith, e, h)
at_terms (st.AtSlot slot) op i value place m n h g =
    let e = operated_weight op (kernel.LocalAt 0 0 i place) value (1 + m) n (ap (λ k. 1 + k) h) g in omega (arith, e, h)
at_terms (st.AsVariable v) op i value place m n h g =
    let e = operated_weight op (kernel.LocalAt 0 0 i place) value (1 + m) n (ap (λ k. 1 + k) h) g in omega (arith, e, h)
at_terms (st.AsNumber v) op i value place m n h g =
    let e = operated_weight op (kernel.LocalAt 0 0 i place) value (1 + m) n (ap (λ k. 1 + k) h) g in omega (arith, e, h)
at_terms (st.AsTable v) op i value place m n h g =
    let e = operated_weight op (kernel.LocalAt 0 0 i place) value (1 + m) n (ap (λ k. 1 + k) h) g in omega (arith, e, h)
at_terms st.AsNothing op i value place m n h g =
    let e = operated_weight op (kernel.LocalAt 0 0 i place) value (1 + m) n (ap (λ k. 1 + k) h) g in omega (arith, e, h)

pub par_terms : (bs : List Branch) → stmt_terms (par_of bs) ≡ suc (branches_weight bs)
par_terms [] = refl
par_terms (b ∷ rest) = omega arith

pub sets_length : (text : Text) (s : List Slot) (slot : ℕ) (es : Terms) → stmts_length (set_params text s slot es) ≡ count_terms es
sets_length text s slot no_terms = refl
sets_length text s slot (more_terms e rest) = ap suc (sets_length text s (suc slot) rest)

-- as many statements
pub length_is : (text : Text) (called : ℕ → Inlined) (t : ℕ) (s : List Slot) (n : NextNumbers) (a : Statements) →
    stmts_length (lower_list text called t s n a).list ≡ statement_count a
length_is text called t s n no_statements = refl
length_is text called t s n (more_statements a rest) =
    ap suc (length_is text called t (scope_after text s n.slot a) (lower_statement text called t s n a).next rest)

module _ (text : Text) (called : ℕ → Inlined) (sizes : ℕ → ℕ) (right : (id first t : ℕ) (n : NextNumbers) → stmt_terms (called id first t n).stmt ≡ sizes id) where
  values_length : (s : List Slot) (slot size k : ℕ) (es : Terms) (place : Place) → stmts_length (array_values text s slot size k es place) ≡ count_terms es
  values_length s slot size k no_terms place = refl
  values_length s slot size k (more_terms e rest) place = ap suc (values_length s slot size (suc k) rest place)

  values_terms : (s : List Slot) (slot size k : ℕ) (es : Terms) (place : Place) → stmts_terms (array_values text s slot size k es place) ≡ values_count es
  values_terms s slot size k no_terms place = refl
  values_terms s slot size k (more_terms e rest) place = omega (arith, term_weight text s e, values_terms s slot size (suc k) rest place)

  first_terms : (s : List Slot) (slot : ℕ) (es : Terms) →
      stmt_terms (elim es [ no_terms ↦ kernel.Clear slot 1 | more_terms e rest ↦ kernel.Set (Rattle.forec_kernel.specs.declared.terms.Spot.TheVariants.Local slot) (lower_term text s e) ]) ≡ first_count es
  first_terms s slot no_terms = refl
  first_terms s slot (more_terms e rest) = omega (arith, term_weight text s e)

  sets_terms : (s : List Slot) (slot : ℕ) (es : Terms) → stmts_terms (set_params text s slot es) ≡ sets_count es
  sets_terms s slot no_terms = refl
  sets_terms s slot (more_terms e rest) = omega (arith, term_weight text s e, sets_terms s (suc slot) rest)

  local_terms : (s : List Slot) (slot : ℕ) (l : Declared) → stmt_terms (lower_local text s slot l) ≡ local_count l
  local_terms s slot l = pick l.length l.values refl refl
    where
      pick : (size : Option Number) (es : Terms) → l.length ≡ size → l.values ≡ es → stmt_terms (lower_local text s slot l) ≡ local_count l
      pick None no_terms e d = rw (e, d) refl
      pick None (more_terms x rest) e d = rw (e, d) (omega (arith, term_weight text s x))
      pick (Some n) es e d =
          rw e
          (sequence_as (more_stmts (kernel.Clear slot (number_of n)) (array_values text s slot (number_of n) 0 l.values l.name.place)) _ _
          (ap suc (values_length s slot (number_of n) 0 l.values l.name.place))
          (ap (λ k. 1 + k) (values_terms s slot (number_of n) 0 l.values l.name.place)))

  locals_length : (s : List Slot) (slot : ℕ) (ls : List Declared) → stmts_length (lower_locals text s slot ls) ≡ length ls
  locals_length s slot [] = refl
  locals_length s slot (l ∷ rest) = ap suc (locals_length (with_local_slots s slot (l ∷ [])) (slot + slots_of l.length) rest)

  locals_terms : (s : List Slot) (slot : ℕ) (ls : List Declared) → stmts_terms (lower_locals text s slot ls) ≡ locals_count ls
  locals_terms s slot [] = refl
  locals_terms s slot (l ∷ rest) =
      omega (arith, local_terms s slot l, locals_terms (with_local_slots s slot (l ∷ [])) (slot + slots_of l.length) rest)

  target_terms : (s : List Slot) (target : PlainTarget) (op : Option OpAt) (value : Term) →
      stmt_terms (lower_target text s target op (lower_term text s value)) ≡ assign_count target.index op (term_count value)
  target_terms s target op value = pick target.index refl
    where
      pick : (i : Option Term) → target.index ≡ i → stmt_terms (lower_target text s target op (lower_term text s value)) ≡ assign_count target.index op (term_count value)
      pick None e = rw e (assign_terms (stands text s target.name.id) op (lower_term text s value) (term_count value) (term_weight text s value))
      pick (Some i) e =
          rw e
          (at_terms (stands text s target.name.id) op (lower_term text s i) (lower_term text s value) target.name.place (term_count i) (term_count value)
          (term_weight text s i) (term_weight text s value))

  after_terms : (start : Perhaps) (a loop : Stmt) (m : ℕ) → stmt_terms a ≡ own_perhaps sizes start → stmt_terms loop ≡ m → stmt_terms (after_start start a loop) ≡ own_start sizes start m
  after_terms absent a loop m h g = g
  after_terms (present x) a loop m h g = omega arith

  step_terms : (step : Perhaps) (body a : Stmt) (m : ℕ) → stmt_terms body ≡ m → stmt_terms a ≡ own_perhaps sizes step → stmt_terms (then_step step body a) ≡ own_step sizes step m
  step_terms absent body a m h g = h
  step_terms (present x) body a m h g = omega arith

  optional_weight : (s : List Slot) (e : Option Term) → expr_weight (optional_test text s e) ≡ optional_count e
  optional_weight s None = refl
  optional_weight s (Some e) = term_weight text s e

  mutual
    pub own_is : (t : ℕ) (s : List Slot) (n : NextNumbers) (a : Statement) → stmt_terms (lower_statement text called t s n a).stmt ≡ own sizes a
    own_is t s n (Nothing at) = refl
    own_is t s n (Group at body) = sequence_as _ _ _ (length_is text called t s n body) (all_is t s n body)
    own_is t s n (Declare at locals) = sequence_as (lower_locals text s n.slot locals) _ _ (locals_length s n.slot locals) (locals_terms s n.slot locals)
    own_is t s n (Assign at target op value) = target_terms s target op value
    own_is t s n (Invoke at name args) =
        let from = low.from_slot n (n.slot + count_terms args) in
        let l = called name.id n.slot t from in
        let sets = set_params text s n.slot args in
        sequence_as (ends_with sets l.stmt) (suc (count_terms args)) (sets_count args + sizes name.id)
        (ends_length sets l.stmt ∙ ap suc (sets_length text s n.slot args))
        (let e = ends_terms sets l.stmt in let h : stmts_terms (ends_with sets l.stmt) ≡ sets_count args + sizes name.id = omega (arith, e, sets_terms s n.slot args, right name.id n.slot t from) in h)
    own_is t s n (If at test a b) =
        let l = lower_statement text called t s n a in
        omega (arith, term_weight text s test, own_is t s n a, perhaps_is t s l.next b)
    own_is t s n (While at test bound body) = omega (arith, term_weight text s test, own_is t s n body)
    own_is t s n (For at start test step bound body) =
        let inside = scope_after_perhaps text s n.slot start in
        let i = lower_perhaps text called t s n start in
        let j = lower_perhaps text called t inside i.next step in
        let inner = scope_after_perhaps text inside i.next.slot step in
        let l = lower_statement text called t inner j.next body in
        let d = step_terms step l.stmt j.stmt (own sizes body) (own_is t inner j.next body) (perhaps_is t inside i.next step) in
        after_terms start i.stmt _ (1 + optional_count test + own_step sizes step (own sizes body)) (perhaps_is t s n start)
        (omega (arith, optional_weight inside test, d))
    own_is t s n (Pause at) = refl
    own_is t s n (Par at bs) =
        let from : NextNumbers = record { slot = n.slot; thread = n.thread; par = par_after bs n.par } in
        par_terms (lower_branches text called t s n.par from bs).launches ∙ (let e = branches_are t s n.par from bs in omega (arith, e))
    own_is t s n (Abort at weak immediate test body) =
        let e = sequence_as _ _ _ (length_is text called t s n body) (all_is t s n body) in omega (arith, term_weight text s test, e)
    own_is t s n (Return at value) = omega (arith, term_weight text s value)

    pub all_is : (t : ℕ) (s : List Slot) (n : NextNumbers) (a : Statements) → stmts_terms (lower_list text called t s n a).list ≡ own_all sizes a
    all_is t s n no_statements = refl
    all_is t s n (more_statements a rest) =
        omega (arith, own_is t s n a, all_is t (scope_after text s n.slot a) (lower_statement text called t s n a).next rest)

    perhaps_is : (t : ℕ) (s : List Slot) (n : NextNumbers) (a : Perhaps) → stmt_terms (lower_perhaps text called t s n a).stmt ≡ own_perhaps sizes a
    perhaps_is t s n absent = refl
    perhaps_is t s n (present a) = own_is t s n a

    branches_are : (t : ℕ) (s : List Slot) (p : ℕ) (n : NextNumbers) (bs : Branches) → branches_weight (lower_branches text called t s p n bs).launches ≡ branches_count bs
    branches_are t s p n no_branches = refl
    branches_are t s p n (by_call name args rest) =
        let b = called name.id 0 n.thread (record { slot = count_terms args; thread = suc n.thread; par = n.par }) in
        omega (arith, terms_weight text s args, branches_are t s p (record { slot = n.slot; thread = b.next.thread; par = b.next.par }) rest)
    branches_are t s p n (by_group at body rest) =
        let l = lower_list text called n.thread [] (record { slot = 0; thread = suc n.thread; par = n.par }) body in
        omega (arith, branches_are t s p (record { slot = n.slot; thread = l.next.thread; par = l.next.par }) rest)
