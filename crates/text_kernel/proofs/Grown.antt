-- The skeleton of a lowering: which threads and pars it adds, from one state to the next. All that `WellFormed` says of threads and pars follows from it.
use Rattle.std.proofs.Common.{ℕ, zero, suc, ◌+◌, ◌≡◌, ◌∙◌, sym, ap, refl, Option, Some, None, List, [], ◌∷◌, ◌++◌, append-nil, append_assoc, map, length, subst}
use Rattle.std.proofs.lemmas.List.{map-append}
use Rattle.forec_base.specs.declared.Place.{Place}
use Rattle.forec_tree.specs.declared.tree.Number.{Number}
use Rattle.forec_tree.specs.declared.tree.OpAt.{OpAt}
use Rattle.forec_tree.specs.Terms.{Term, Terms, no_terms, more_terms, count_terms, Declared, PlainTarget, Statement, Declare, Nothing, Group, Assign, Invoke, If, While, For, Pause, Par, Abort, Return, Statements, no_statements, more_statements, Perhaps, absent, present, Branches, no_branches, by_call, by_group, Text, PlainFunction}
use Rattle.forec_tree.specs.Pauses.{within, find_function}
use Rattle.forec_kernel.specs.Terms as kernel
use Rattle.forec_kernel.specs.Terms.{Expr, Branch, Stmt, Stmts, no_stmts, more_stmts, no_exprs}
use Rattle.forec_kernel.specs.WellFormed.{pars_of, pars_in, threads_in}
use Rattle.text_kernel.specs.declared.names.Slot.{Slot}
use Rattle.text_kernel.specs.declared.names.Stands.{Stands}
use Rattle.text_kernel.specs.declared.names.Stands.TheVariants as st
use Rattle.text_kernel.specs.Bindings.{with_local_slots, params_at, slots_of, number_of}
use Rattle.text_kernel.specs.Lowering.{stands, lower_term, sequence, ends_with, assign_to, assign_at, array_values, lower_local, lower_locals, set_params, lower_target, lower_statement, lower_list, lower_perhaps, lower_branches, scope_after, scope_after_perhaps, after_start, then_step, par_of, param_names, vars_of, vars_made, made_thread, NextNumbers, Made, Lowered, Listed, Inlined, inlined_body, inlined_step, inlined, nothing_inlined}

-- a par of a body: its number, and the threads that are its branches
pub record Fork : Type 0 where
  pub number : ℕ
  pub threads : List ℕ

abbrev pub lists : List Fork → List (List ℕ)
lists = map (λ f. f.threads)

-- `Grown t m p made forks m' p'`: text of thread t adds these threads, numbered from m up to m', with pars numbered from p up to p', of which these forks are the thread's own
mutual
  pub data Grown : (t m p : ℕ) → List Made → List Fork → (m' p' : ℕ) → Type 0 where
    nothing : {t m p : ℕ} → Grown t m p [] [] m p
    both : {t m p m1 p1 m2 p2 : ℕ} {a b : List Made} {x y : List Fork} →
        Grown t m p a x m1 p1 → Grown t m1 p1 b y m2 p2 → Grown t m p (a ++ b) (x ++ y) m2 p2
    fork : {t m p m1 p1 m2 p2 : ℕ} {a b : List Made} {us : List ℕ} →
        Branching t p m (suc p) a m1 p1 → Row t p m1 p1 b us m2 p2 → Grown t m p (a ++ b) (record { number = p; threads = m ∷ us } ∷ []) m2 p2
    -- the step of a `for` is numbered before its body, and stands after it
    turned : {t m p m1 p1 : ℕ} {a : List Made} (x y : List Fork) → Grown t m p a (x ++ y) m1 p1 → Grown t m p a (y ++ x) m1 p1

  -- one branch of par q of thread t, which is thread m, and all threads below it
  pub data Branching : (t q m p : ℕ) → List Made → (m' p' : ℕ) → Type 0 where
    branch : {t q m p m1 p1 : ℕ} {a : List Made} {x : List Fork} (made : Made) → made.parent ≡ t → made.par ≡ q →
        made.named ≡ vars_of made.body ++ vars_made a → lists x ≡ pars_of made.body → made.behind ≡ m1 → Grown m (suc m) p a x m1 p1 → Branching t q m p (made ∷ a) m1 p1

  pub data Row : (t q m p : ℕ) → List Made → List ℕ → (m' p' : ℕ) → Type 0 where
    no_row : {t q m p : ℕ} → Row t q m p [] [] m p
    more_row : {t q m p m1 p1 m2 p2 : ℕ} {a b : List Made} {us : List ℕ} →
        Branching t q m p a m1 p1 → Row t q m1 p1 b us m2 p2 → Row t q m p (a ++ b) (m ∷ us) m2 p2

-- the lowering of a statement, list or call that has these pars, from a state on
pub record IsGrown (t : ℕ) (n : NextNumbers) (pars : List (List ℕ)) (made : List Made) (next : NextNumbers) : Type 0 where
  pub forks : List Fork
  pub are : lists forks ≡ pars
  pub grown : Grown t n.thread n.par made forks next.thread next.par

pub still : (t : ℕ) (n next : NextNumbers) (pars : List (List ℕ)) → pars ≡ [] → next.thread ≡ n.thread → next.par ≡ n.par → IsGrown t n pars [] next
still t n next pars e th pr =
    record { forks = []; are = sym e; grown = subst (λ m. Grown t n.thread n.par [] [] m next.par) (sym th) (subst (λ q. Grown t n.thread n.par [] [] n.thread q) (sym pr) nothing) }

joins : (t : ℕ) (n m next : NextNumbers) (pars xs ys : List (List ℕ)) (a b : List Made) → pars ≡ xs ++ ys → IsGrown t n xs a m → IsGrown t m ys b next → IsGrown t n pars (a ++ b) next
joins t n m next pars xs ys a b e g h =
    record { forks = g.forks ++ h.forks; are = map-append _ g.forks h.forks ∙ (ap (λ l. l ++ lists h.forks) g.are ∙ ap (λ l. xs ++ l) h.are) ∙ sym e; grown = both g.grown h.grown }

renamed : (t : ℕ) (n next : NextNumbers) (pars xs : List (List ℕ)) (a : List Made) → pars ≡ xs → IsGrown t n xs a next → IsGrown t n pars a next
renamed t n next pars xs a e g = record { forks = g.forks; are = g.are ∙ sym e; grown = g.grown }

pub sequence_pars : (list : Stmts) → pars_of (sequence list) ≡ pars_in list
sequence_pars no_stmts = refl
sequence_pars (more_stmts a no_stmts) = sym (append-nil (pars_of a))
sequence_pars (more_stmts a (more_stmts b rest)) = refl

ends_pars : (list : Stmts) (a : Stmt) → pars_in (ends_with list a) ≡ pars_in list ++ pars_of a
ends_pars no_stmts a = append-nil (pars_of a)
ends_pars (more_stmts b rest) a = ap (λ l. pars_of b ++ l) (ends_pars rest a) ∙ sym (append_assoc (pars_of b) (pars_in rest) (pars_of a))

to_pars : (x : Stands) (op : Option OpAt) (value : Expr) → pars_of (assign_to x op value) ≡ []
to_pars (st.AtSlot slot) op value = refl
to_pars (st.AsVariable v) op value = refl
to_pars (st.AsVariables v m) op value = refl
to_pars (st.AtSlots slot size) op value = refl
to_pars (st.AsNumber m) op value = refl
to_pars (st.AsTable t) op value = refl
to_pars st.AsNothing op value = refl

at_pars : (x : Stands) (op : Option OpAt) (i value : Expr) (place : Place) → pars_of (assign_at x op i value place) ≡ []
at_pars (st.AtSlot slot) op i value place = refl
at_pars (st.AsVariable v) op i value place = refl
at_pars (st.AsVariables v m) op i value place = refl
at_pars (st.AtSlots slot size) op i value place = refl
at_pars (st.AsNumber m) op i value place = refl
at_pars (st.AsTable t) op i value place = refl
at_pars st.AsNothing op i value place = refl

par_pars : (b : Branch) (bs : List Branch) → pars_of (par_of (b ∷ bs)) ≡ (b.thread ∷ threads_in bs) ∷ []
par_pars b bs = refl

abbrev pub made_of : ℕ → ℕ → Option ℕ → ℕ → Lowered → Made
made_of t q name params l =
    record { parent = t; par = q; name = name; params = params; words = l.next.slot; behind = l.next.thread; body = l.stmt; named = vars_of l.stmt ++ vars_made l.made }

start_pars : (text : Text) (called : ℕ → Inlined) (t : ℕ) (s : List Slot) (n : NextNumbers) (start : Perhaps) (loop : Stmt) →
    let i = lower_perhaps text called t s n start in pars_of (after_start start i.stmt loop) ≡ pars_of i.stmt ++ pars_of loop
start_pars text called t s n absent loop = refl
start_pars text called t s n (present a) loop = ap (λ x. pars_of (lower_statement text called t s n a).stmt ++ x) (append-nil (pars_of loop))

step_pars : (text : Text) (called : ℕ → Inlined) (t : ℕ) (s : List Slot) (n : NextNumbers) (step : Perhaps) (body : Stmt) →
    let j = lower_perhaps text called t s n step in pars_of (then_step step body j.stmt) ≡ pars_of body ++ pars_of j.stmt
step_pars text called t s n absent body = sym (append-nil (pars_of body))
step_pars text called t s n (present a) body = ap (λ x. pars_of body ++ x) (append-nil (pars_of (lower_statement text called t s n a).stmt))

module _ (text : Text) (called : ℕ → Inlined) (right : (id first t : ℕ) (n : NextNumbers) → IsGrown t n (pars_of (called id first t n).stmt) (called id first t n).made (called id first t n).next) where
  values_pars : (s : List Slot) (slot size k : ℕ) (es : Terms) (place : Place) → pars_in (array_values text s slot size k es place) ≡ []
  values_pars s slot size k no_terms place = refl
  values_pars s slot size k (more_terms e rest) place = values_pars s slot size (suc k) rest place

  local_pars : (s : List Slot) (slot : ℕ) (l : Declared) → pars_of (lower_local text s slot l) ≡ []
  local_pars s slot l = pick l.length l.values refl refl
    where
      pick : (size : Option Number) (es : Terms) → l.length ≡ size → l.values ≡ es → pars_of (lower_local text s slot l) ≡ []
      pick None no_terms e d = rw (e, d) refl
      pick None (more_terms x rest) e d = rw (e, d) refl
      pick (Some n) es e d =
          rw e
          (sequence_pars (more_stmts (kernel.Clear slot (number_of n)) (array_values text s slot (number_of n) 0 l.values l.name.place))
          ∙ values_pars s slot (number_of n) 0 l.values l.name.place)

  locals_pars : (s : List Slot) (slot : ℕ) (ls : List Declared) → pars_in (lower_locals text s slot ls) ≡ []
  locals_pars s slot [] = refl
  locals_pars s slot (l ∷ rest) = ap (λ x. x ++ pars_in (lower_locals text (with_local_slots s slot (l ∷ [])) (slot + slots_of l.length) rest)) (local_pars s slot l) ∙ locals_pars (with_local_slots s slot (l ∷ [])) (slot + slots_of l.length) rest

  sets_pars : (s : List Slot) (slot : ℕ) (es : Terms) → pars_in (set_params text s slot es) ≡ []
  sets_pars s slot no_terms = refl
  sets_pars s slot (more_terms e rest) = sets_pars s (suc slot) rest

  target_pars : (s : List Slot) (target : PlainTarget) (op : Option OpAt) (value : Expr) → pars_of (lower_target text s target op value) ≡ []
  target_pars s target op value = pick target.index refl
    where
      pick : (i : Option Term) → target.index ≡ i → pars_of (lower_target text s target op value) ≡ []
      pick None e = rw e (to_pars (stands text s target.name.id) op value)
      pick (Some i) e = rw e (at_pars (stands text s target.name.id) op (lower_term text s i) value target.name.place)

  call_branch : (t q : ℕ) (n : NextNumbers) (id taken params : ℕ) →
      let b = called id 0 n.thread (record { slot = taken; thread = suc n.thread; par = n.par }) in
      Branching t q n.thread n.par (made_thread t q (Some id) params b) b.next.thread b.next.par
  call_branch t q n id taken params =
      let inside : NextNumbers = record { slot = taken; thread = suc n.thread; par = n.par } in
      let b = called id 0 n.thread inside in
      let g = right id 0 n.thread inside in
      branch (made_of t q (Some id) params b) refl refl refl g.are refl g.grown

  group_branch : (t q : ℕ) (n : NextNumbers) (l : Listed) → IsGrown n.thread (record { slot = 0; thread = suc n.thread; par = n.par }) (pars_in l.list) l.made l.next →
      Branching t q n.thread n.par (made_thread t q None 0 (record { stmt = sequence l.list; next = l.next; made = l.made })) l.next.thread l.next.par
  group_branch t q n l g =
      branch (made_of t q None 0 (record { stmt = sequence l.list; next = l.next; made = l.made })) refl refl refl (g.are ∙ sym (sequence_pars l.list)) refl g.grown

  mutual
    pub grows : (t : ℕ) (s : List Slot) (n : NextNumbers) (a : Statement) →
        IsGrown t n (pars_of (lower_statement text called t s n a).stmt) (lower_statement text called t s n a).made (lower_statement text called t s n a).next
    grows t s n (Nothing at) = still t n n [] refl refl refl
    grows t s n (Group at body) = let l = lower_list text called t s n body in renamed t n l.next _ _ l.made (sequence_pars l.list) (list_grows t s n body)
    grows t s n (Declare at locals) = still t n _ _ (sequence_pars (lower_locals text s n.slot locals) ∙ locals_pars s n.slot locals) refl refl
    grows t s n (Assign at target op value) = still t n n _ (target_pars s target op (lower_term text s value)) refl refl
    grows t s n (Invoke at name args) =
        let from : NextNumbers = record { slot = n.slot + count_terms args; thread = n.thread; par = n.par } in
        let l = called name.id n.slot t from in
        let g = right name.id n.slot t from in
        let sets = set_params text s n.slot args in
        record { forks = g.forks; are = g.are ∙ sym (sequence_pars (ends_with sets l.stmt) ∙ ends_pars sets l.stmt ∙ ap (λ x. x ++ pars_of l.stmt) (sets_pars s n.slot args)); grown = g.grown }
    grows t s n (If at test a b) =
        let l = lower_statement text called t s n a in
        let m = lower_perhaps text called t s l.next b in
        joins t n l.next m.next _ (pars_of l.stmt) (pars_of m.stmt) l.made m.made refl (grows t s n a) (perhaps_grows t s l.next b)
    grows t s n (While at test bound body) = grows t s n body
    grows t s n (For at start test step bound body) =
        let inside = scope_after_perhaps text s n.slot start in
        let i = lower_perhaps text called t s n start in
        let j = lower_perhaps text called t inside i.next step in
        let inner = scope_after_perhaps text inside i.next.slot step in
        let l = lower_statement text called t inner j.next body in
        let g = perhaps_grows t s n start in
        let gj = perhaps_grows t inside i.next step in
        let gl = grows t inner j.next body in
        record {
          forks = g.forks ++ (gl.forks ++ gj.forks);
          are =
              map-append _ g.forks (gl.forks ++ gj.forks)
              ∙ (ap (λ x. lists g.forks ++ x) (map-append _ gl.forks gj.forks)
              ∙ (ap (λ x. x ++ (lists gl.forks ++ lists gj.forks)) g.are
              ∙ (ap (λ x. pars_of i.stmt ++ (x ++ lists gj.forks)) gl.are
              ∙ (ap (λ x. pars_of i.stmt ++ (pars_of l.stmt ++ x)) gj.are
              ∙ (ap (λ x. pars_of i.stmt ++ x) (sym (step_pars text called t inside i.next step l.stmt)) ∙ sym (start_pars text called t s n start _))))));
          grown = both g.grown (turned gj.forks gl.forks (both gj.grown gl.grown));
        }
    grows t s n (Pause at) = still t n n [] refl refl refl
    grows t s n (Par at no_branches) = still t n _ [] refl refl refl
    grows t s n (Par at (by_call name args rest)) =
        let from : NextNumbers = record { slot = n.slot; thread = n.thread; par = suc n.par } in
        let b = called name.id 0 n.thread (record { slot = count_terms args; thread = suc n.thread; par = suc n.par }) in
        let m : NextNumbers = record { slot = n.slot; thread = b.next.thread; par = b.next.par } in
        record {
          forks = record { number = n.par; threads = n.thread ∷ threads_in (lower_branches text called t s n.par m rest).launches } ∷ [];
          are = refl;
          grown = fork (call_branch t n.par from name.id (count_terms args) (length (param_names (find_function name.id text)))) (branches_grow t s n.par m rest);
        }
    grows t s n (Par at (by_group place body rest)) =
        let from : NextNumbers = record { slot = n.slot; thread = n.thread; par = suc n.par } in
        let inside : NextNumbers = record { slot = 0; thread = suc n.thread; par = suc n.par } in
        let l = lower_list text called n.thread [] inside body in
        let m : NextNumbers = record { slot = n.slot; thread = l.next.thread; par = l.next.par } in
        record {
          forks = record { number = n.par; threads = n.thread ∷ threads_in (lower_branches text called t s n.par m rest).launches } ∷ [];
          are = refl;
          grown = fork (group_branch t n.par from l (list_grows n.thread [] inside body)) (branches_grow t s n.par m rest);
        }
    grows t s n (Abort at weak immediate test body) = let l = lower_list text called t s n body in renamed t n l.next _ _ l.made (sequence_pars l.list) (list_grows t s n body)
    grows t s n (Return at value) = still t n n [] refl refl refl

    pub list_grows : (t : ℕ) (s : List Slot) (n : NextNumbers) (a : Statements) →
        IsGrown t n (pars_in (lower_list text called t s n a).list) (lower_list text called t s n a).made (lower_list text called t s n a).next
    list_grows t s n no_statements = still t n n [] refl refl refl
    list_grows t s n (more_statements a rest) =
        let l = lower_statement text called t s n a in
        let inner = scope_after text s n.slot a in
        let m = lower_list text called t inner l.next rest in
        joins t n l.next m.next _ (pars_of l.stmt) (pars_in m.list) l.made m.made refl (grows t s n a) (list_grows t inner l.next rest)

    pub perhaps_grows : (t : ℕ) (s : List Slot) (n : NextNumbers) (a : Perhaps) →
        IsGrown t n (pars_of (lower_perhaps text called t s n a).stmt) (lower_perhaps text called t s n a).made (lower_perhaps text called t s n a).next
    perhaps_grows t s n absent = still t n n [] refl refl refl
    perhaps_grows t s n (present a) = grows t s n a

    pub branches_grow : (t : ℕ) (s : List Slot) (q : ℕ) (n : NextNumbers) (bs : Branches) →
        Row t q n.thread n.par (lower_branches text called t s q n bs).made (threads_in (lower_branches text called t s q n bs).launches)
        (lower_branches text called t s q n bs).next.thread (lower_branches text called t s q n bs).next.par
    branches_grow t s q n no_branches = no_row
    branches_grow t s q n (by_call name args rest) =
        let b = called name.id 0 n.thread (record { slot = count_terms args; thread = suc n.thread; par = n.par }) in
        let m : NextNumbers = record { slot = n.slot; thread = b.next.thread; par = b.next.par } in
        more_row (call_branch t q n name.id (count_terms args) (length (param_names (find_function name.id text)))) (branches_grow t s q m rest)
    branches_grow t s q n (by_group at body rest) =
        let inside : NextNumbers = record { slot = 0; thread = suc n.thread; par = n.par } in
        let l = lower_list text called n.thread [] inside body in
        let m : NextNumbers = record { slot = n.slot; thread = l.next.thread; par = l.next.par } in
        more_row (group_branch t q n l (list_grows n.thread [] inside body)) (branches_grow t s q m rest)

body_grows : (text : Text) (called : ℕ → Inlined) → ((id first t : ℕ) (n : NextNumbers) → IsGrown t n (pars_of (called id first t n).stmt) (called id first t n).made (called id first t n).next) →
    (f : Option PlainFunction) (first t : ℕ) (n : NextNumbers) → let l = inlined_body text called f first t n in IsGrown t n (pars_of l.stmt) l.made l.next
body_grows text called right None first t n = still t n n [] refl refl refl
body_grows text called right (Some f) first t n =
    let l = lower_list text called t (params_at first f.params) n f.body in
    let g = list_grows text called right t (params_at first f.params) n f.body in
    record { forks = g.forks; are = g.are ∙ sym (sequence_pars l.list); grown = g.grown }

pub inlined_grows : (text : Text) (deep id first t : ℕ) (n : NextNumbers) →
    let l = within nothing_inlined (inlined_step text) deep id first t n in IsGrown t n (pars_of l.stmt) l.made l.next
unfolding within
inlined_grows text zero id first t n = still t n n [] refl refl refl
inlined_grows text (suc deep) id first t n = body_grows text (within nothing_inlined (inlined_step text) deep) (inlined_grows text deep) (find_function id text) first t n

-- a function that is put in place
pub place_grows : (text : Text) (id first t : ℕ) (n : NextNumbers) →
    let l = inlined text id first t n in IsGrown t n (pars_of l.stmt) l.made l.next
place_grows text id first t n = inlined_grows text (length text) id first t n
