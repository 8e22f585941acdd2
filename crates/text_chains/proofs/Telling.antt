-- What the text brings is what its lowering has: variables, calls, words and threads.
use Rattle.std.proofs.Common.{ℕ, zero, suc, ◌+◌, ◌-◌, ◌^◌, ◌<◌, ◌≤◌, ◌≡◌, ◌∙◌, ◌==◌, min, max, sym, ap, refl, subst, ◌⊎◌, inl, inr, ⊎_elim, Bool, true, false, cond, ◌||◌, nat_lt, is_some, Option, Some, None, List, [], ◌∷◌, ◌++◌, append-nil, append_assoc, length, length-append, arith}
use Rattle.std.proofs.lemmas.Bool.Decides.{nat_tests}
use Rattle.std.proofs.lemmas.List.{get_or_append_left, get_or-append-add}
use Rattle.forec_base.specs.declared.Place.{Place}
use Rattle.forec_tree.specs.declared.tree.Name.{Name}
use Rattle.forec_tree.specs.declared.tree.Number.{Number}
use Rattle.forec_tree.specs.declared.tree.OpAt.{OpAt}
use Rattle.forec_tree.specs.Terms.{Term, Num, Read, Element, Un, Bin, And, Or, Choose, Call, Terms, no_terms, more_terms, count_terms, Declared, PlainTarget, Statement, Declare, Nothing, Group, Assign, Invoke, If, While, For, Pause, Par, Abort, Return, Statements, no_statements, more_statements, Perhaps, absent, present, Branches, no_branches, by_call, by_group, Text, PlainFunction}
use Rattle.forec_tree.specs.Pauses.{within, find_function}
use Rattle.forec_tree.specs.Faults.{is_in}
use Rattle.forec_kernel.specs.declared.terms.Spot.TheVariants as spot
use Rattle.forec_kernel.specs.Terms as kernel
use Rattle.forec_kernel.specs.Terms.{Expr, Branch, Stmt, Stmts, no_stmts, more_stmts}
use Rattle.forec_kernel.specs.Shapes.{PlainKernel}
use Rattle.forec_kernel.specs.Combining.{contains}
use Rattle.forec_kernel.specs.Texts.{uses_of}
use Rattle.forec_kernel.specs.WellFormed.{greatest, count_up, users, calls_of, calls_in, branch_calls, stmt_calls, stmts_calls, pars_of, pars_in, threads_in}
use Rattle.text_kernel.specs.declared.names.Slot.{Slot}
use Rattle.text_kernel.specs.declared.names.Stands.{Stands}
use Rattle.text_kernel.specs.declared.names.Stands.TheVariants as st
use Rattle.text_kernel.specs.Bindings.{with_local_slots, params_at, slots_of, number_of, number_among, is_int_function, find_slot}
use Rattle.text_kernel.specs.Lowering as low
use Rattle.text_kernel.specs.Lowering.{read_as, element_as, stands, lower_term, lower_terms, sequence, ends_with, operated_expr, assign_to, assign_at, array_values, lower_local, lower_locals, slots_after, set_params, optional_test, lower_target, lower_statement, lower_list, lower_perhaps, lower_branches, scope_after, scope_after_perhaps, after_start, then_step, par_of, par_after, bound_of, or_inferred, param_names, vars_in, vars_all, vars_of, vars_list, vars_launches, vars_made, NextNumbers, Made, Lowered, Inlined, inlined_body, inlined_step, nothing_inlined}
use Rattle.text_kernel.specs.Kernels.{filter_in}
use Rattle.text_kernel.proofs.Called.{read_calls, element_calls}
use Rattle.text_kernel.proofs.NamedVariables.{in_append, sequence_vars, ends_vars}
use Rattle.text_kernel.proofs.Covered.{vars_append}
use Rattle.text_kernel.proofs.Grown.{IsGrown, grows, list_grows, perhaps_grows, inlined_grows, sequence_pars}
use Rattle.text_kernel.proofs.Forks.{threads_grow, at, blank_made}
use Rattle.text_sizes.proofs.Heights.{made_most}
use Rattle.text_chains.proofs.Parts.{greatest_append, sequence_calls, ends_calls, ends_pars, crossed, or_none, in_again, in_swap, most_again, most_swap, folds, folds_append, folds_swap, thread_measure, SitsIn, sits_left, sits_right, filtered, made_append, in_behind, most_behind, folds_behind, seen, seen_locals, seen_params, seen_behind, seen_perhaps}
use Rattle.text_chains.specs.declared.tally.Tally.{Tally}
use Rattle.text_chains.specs.Tallies as of
use Rattle.text_chains.specs.Tallies.{plus, no_tally, naming_tally, call_tally, taking, both_tallies, whole, branch_tally, names_alone, names_indexed, hides, hides_locals, hides_params, hides_after, hides_after_perhaps}

-- ---- what stands for a name

-- the variables that an index at it names
abbrev pub row_as : Stands → List ℕ
row_as (st.AsVariables v n) = count_up v n
row_as _ = []

element_vars : (x : Stands) (e : Expr) (place : Place) → vars_in (element_as x e place) ≡ row_as x ++ vars_in e
element_vars (st.AtSlot slot) e place = refl
element_vars (st.AtSlots slot size) e place = refl
element_vars (st.AsVariable v) e place = refl
element_vars (st.AsVariables v n) e place = refl
element_vars (st.AsNumber n) e place = refl
element_vars (st.AsTable t) e place = refl
element_vars st.AsNothing e place = refl

-- ---- assignments

set_vars : (v : ℕ) (x : Stands) (op : Option OpAt) (e : Expr) → is_in v (vars_of (assign_to x op e)) ≡ is_in v (vars_in (read_as x) ++ vars_in e)
set_vars v (st.AtSlot slot) None e = refl
set_vars v (st.AtSlot slot) (Some o) e = refl
set_vars v (st.AtSlots slot size) None e = refl
set_vars v (st.AtSlots slot size) (Some o) e = refl
set_vars v (st.AsVariable w) None e = refl
set_vars v (st.AsVariable w) (Some o) e = in_again v (w ∷ []) (vars_in e)
set_vars v (st.AsVariables w n) None e = refl
set_vars v (st.AsVariables w n) (Some o) e = refl
set_vars v (st.AsNumber n) None e = refl
set_vars v (st.AsNumber n) (Some o) e = refl
set_vars v (st.AsTable t) None e = refl
set_vars v (st.AsTable t) (Some o) e = refl
set_vars v st.AsNothing None e = refl
set_vars v st.AsNothing (Some o) e = refl

set_calls : (x : Stands) (op : Option OpAt) (e : Expr) → stmt_calls (assign_to x op e) ≡ calls_of e
set_calls (st.AtSlot slot) None e = refl
set_calls (st.AtSlot slot) (Some o) e = refl
set_calls (st.AtSlots slot size) None e = refl
set_calls (st.AtSlots slot size) (Some o) e = refl
set_calls (st.AsVariable w) None e = refl
set_calls (st.AsVariable w) (Some o) e = refl
set_calls (st.AsVariables w n) None e = refl
set_calls (st.AsVariables w n) (Some o) e = refl
set_calls (st.AsNumber n) None e = refl
set_calls (st.AsNumber n) (Some o) e = refl
set_calls (st.AsTable t) None e = refl
set_calls (st.AsTable t) (Some o) e = refl
set_calls st.AsNothing None e = refl
set_calls st.AsNothing (Some o) e = refl

set_pars : (x : Stands) (op : Option OpAt) (e : Expr) → pars_of (assign_to x op e) ≡ []
set_pars (st.AtSlot slot) op e = refl
set_pars (st.AtSlots slot size) op e = refl
set_pars (st.AsVariable w) op e = refl
set_pars (st.AsVariables w n) op e = refl
set_pars (st.AsNumber n) op e = refl
set_pars (st.AsTable t) op e = refl
set_pars st.AsNothing op e = refl

at_pars : (x : Stands) (op : Option OpAt) (i e : Expr) (place : Place) → pars_of (assign_at x op i e place) ≡ []
at_pars (st.AtSlot slot) op i e place = refl
at_pars (st.AtSlots slot size) op i e place = refl
at_pars (st.AsVariable w) op i e place = refl
at_pars (st.AsVariables w n) op i e place = refl
at_pars (st.AsNumber n) op i e place = refl
at_pars (st.AsTable t) op i e place = refl
at_pars st.AsNothing op i e place = refl

-- an element that is set from its old value has its index twice, and its array
twice : (a b c : Bool) → (a || (b || ((a || b) || c))) ≡ ((a || b) || c)
twice true b c = refl
twice false true c = refl
twice false false c = refl

row_again : (v : ℕ) (xs ys zs : List ℕ) → is_in v (xs ++ (ys ++ ((xs ++ ys) ++ zs))) ≡ is_in v ((xs ++ ys) ++ zs)
row_again v xs ys zs =
    let all = in_append v (xs ++ ys) zs ∙ ap (λ t. t || is_in v zs) (in_append v xs ys) in
    in_append v xs (ys ++ ((xs ++ ys) ++ zs))
    ∙ (ap (λ t. is_in v xs || t) (in_append v ys ((xs ++ ys) ++ zs) ∙ ap (λ t. is_in v ys || t) all)
    ∙ (twice (is_in v xs) (is_in v ys) (is_in v zs) ∙ sym all))

at_vars : (v : ℕ) (x : Stands) (op : Option OpAt) (i e : Expr) (place : Place) → is_in v (vars_of (assign_at x op i e place)) ≡ is_in v ((row_as x ++ vars_in i) ++ vars_in e)
at_vars v (st.AtSlot slot) None i e place = refl
at_vars v (st.AtSlot slot) (Some o) i e place = in_again v (vars_in i) (vars_in e)
at_vars v (st.AtSlots slot size) None i e place = refl
at_vars v (st.AtSlots slot size) (Some o) i e place = in_again v (vars_in i) (vars_in e)
at_vars v (st.AsVariable w) None i e place = refl
at_vars v (st.AsVariable w) (Some o) i e place = in_again v (vars_in i) (vars_in e)
at_vars v (st.AsVariables w n) None i e place = ap (is_in v) (sym (append_assoc (count_up w n) (vars_in i) (vars_in e)))
at_vars v (st.AsVariables w n) (Some o) i e place = row_again v (count_up w n) (vars_in i) (vars_in e)
at_vars v (st.AsNumber n) None i e place = refl
at_vars v (st.AsNumber n) (Some o) i e place = in_again v (vars_in i) (vars_in e)
at_vars v (st.AsTable t) None i e place = refl
at_vars v (st.AsTable t) (Some o) i e place = in_again v (vars_in i) (vars_in e)
at_vars v st.AsNothing None i e place = refl
at_vars v st.AsNothing (Some o) i e place = in_again v (vars_in i) (vars_in e)

at_calls : (f : ℕ → ℕ) (x : Stands) (op : Option OpAt) (i e : Expr) (place : Place) → greatest f (stmt_calls (assign_at x op i e place)) ≡ greatest f (calls_of i ++ calls_of e)
at_calls f (st.AtSlot slot) None i e place = refl
at_calls f (st.AtSlot slot) (Some o) i e place = most_again f (calls_of i) (calls_of e)
at_calls f (st.AtSlots slot size) None i e place = refl
at_calls f (st.AtSlots slot size) (Some o) i e place = most_again f (calls_of i) (calls_of e)
at_calls f (st.AsVariable w) None i e place = refl
at_calls f (st.AsVariable w) (Some o) i e place = most_again f (calls_of i) (calls_of e)
at_calls f (st.AsVariables w n) None i e place = refl
at_calls f (st.AsVariables w n) (Some o) i e place = most_again f (calls_of i) (calls_of e)
at_calls f (st.AsNumber n) None i e place = refl
at_calls f (st.AsNumber n) (Some o) i e place = most_again f (calls_of i) (calls_of e)
at_calls f (st.AsTable t) None i e place = refl
at_calls f (st.AsTable t) (Some o) i e place = most_again f (calls_of i) (calls_of e)
at_calls f st.AsNothing None i e place = refl
at_calls f st.AsNothing (Some o) i e place = most_again f (calls_of i) (calls_of e)

-- ---- loops

absent_none : {A : Type 0} (f : Stmt → List A) → f kernel.Nop ≡ [] → (a b : Stmt) → a ≡ kernel.Nop → f a ++ f b ≡ f b
absent_none f z a b e = ap (λ x. f x ++ f b) e ∙ ap (λ l. l ++ f b) z

start_vars : (start : Perhaps) (a loop : Stmt) → (start ≡ absent → a ≡ kernel.Nop) → vars_of (after_start start a loop) ≡ vars_of a ++ vars_of loop
start_vars absent a loop h = sym (absent_none vars_of refl a loop (h refl))
start_vars (present x) a loop h = ap (λ l. vars_of a ++ l) (append-nil (vars_of loop))

start_calls : (start : Perhaps) (a loop : Stmt) → (start ≡ absent → a ≡ kernel.Nop) → stmt_calls (after_start start a loop) ≡ stmt_calls a ++ stmt_calls loop
start_calls absent a loop h = sym (absent_none stmt_calls refl a loop (h refl))
start_calls (present x) a loop h = ap (λ l. stmt_calls a ++ l) (append-nil (stmt_calls loop))

start_pars : (start : Perhaps) (a loop : Stmt) → (start ≡ absent → a ≡ kernel.Nop) → pars_of (after_start start a loop) ≡ pars_of a ++ pars_of loop
start_pars absent a loop h = sym (absent_none pars_of refl a loop (h refl))
start_pars (present x) a loop h = ap (λ l. pars_of a ++ l) (append-nil (pars_of loop))

-- the step stands after the body
step_vars : (v : ℕ) (step : Perhaps) (body a : Stmt) → (step ≡ absent → a ≡ kernel.Nop) → is_in v (vars_of (then_step step body a)) ≡ is_in v (vars_of a ++ vars_of body)
step_vars v absent body a h = ap (is_in v) (sym (absent_none vars_of refl a body (h refl)))
step_vars v (present x) body a h = ap (λ l. is_in v (vars_of body ++ l)) (append-nil (vars_of a)) ∙ in_swap v (vars_of body) (vars_of a)

step_calls : (f : ℕ → ℕ) (step : Perhaps) (body a : Stmt) → (step ≡ absent → a ≡ kernel.Nop) → greatest f (stmt_calls (then_step step body a)) ≡ greatest f (stmt_calls a ++ stmt_calls body)
step_calls f absent body a h = ap (greatest f) (sym (absent_none stmt_calls refl a body (h refl)))
step_calls f (present x) body a h = ap (λ l. greatest f (stmt_calls body ++ l)) (append-nil (stmt_calls a)) ∙ most_swap f (stmt_calls body) (stmt_calls a)

step_pars : (k : PlainKernel) (v worth : ℕ) (step : Perhaps) (body a : Stmt) → (step ≡ absent → a ≡ kernel.Nop) →
    folds k v worth (pars_of (then_step step body a)) ≡ folds k v worth (pars_of a ++ pars_of body)
step_pars k v worth absent body a h = ap (folds k v worth) (sym (absent_none pars_of refl a body (h refl)))
step_pars k v worth (present x) body a h = ap (λ l. folds k v worth (pars_of body ++ l)) (append-nil (pars_of a)) ∙ folds_swap k v worth (pars_of body) (pars_of a)

module _
    (text : Text) (k : PlainKernel) (count i v worth : ℕ) (array : Bool) (u : ℕ → ℕ) (Real : Type 0) (either : Real ⊎ (worth ≡ 0)) (inside : Real → v < count)
    (reads : Real → (s : List Slot) (h : Bool) → seen i s ≡ h → (id : ℕ) → is_in v (vars_in (read_as (stands text s id))) ≡ names_alone i array h id)
    (rows : Real → (s : List Slot) (h : Bool) → seen i s ≡ h → (id : ℕ) → is_in v (row_as (stands text s id)) ≡ names_indexed i array h id) where
  abbrev pub value : ℕ → ℕ
  value id = u (number_among is_int_function id text)

  abbrev pub measure : Made → ℕ
  measure m = thread_measure u k v worth m.words m.body

  -- lowered text with these variables, calls and pars, which adds these threads and takes these slots, has what is told
  pub record Tells (vs cs : List ℕ) (ps : List (List ℕ)) (made : List Made) (from to : ℕ) (p : Tally) : Type 0 where
    pub taken : ℕ
    pub named : Real → (is_in v vs || is_in v (vars_made made)) ≡ p.named
    pub calls : max (greatest u cs) (folds k v worth ps) ≡ p.calls
    pub slot : to ≡ from + taken
    pub words : p.words ≡ min taken (2 ^ 64 - 1)
    pub peak : p.peak ≡ min (made_most measure made) (2 ^ 64 - 1)

  none_told : (from : ℕ) → Tells [] [] [] [] from from no_tally
  none_told from = record { taken = 0; named = λ r. refl; calls = omega arith; slot = omega arith; words = omega arith; peak = omega arith }

  two : (vs ws cs ds : List ℕ) (ps qs : List (List ℕ)) (m n : List Made) (from mid to : ℕ) (p q : Tally) → Tells vs cs ps m from mid p → Tells ws ds qs n mid to q →
      Tells (vs ++ ws) (cs ++ ds) (ps ++ qs) (m ++ n) from to (both_tallies p q)
  two vs ws cs ds ps qs m n from mid to p q x y =
      let sx = x.slot in
      let sy = y.slot in
      let cx = x.calls in
      let cy = y.calls in
      let wx = x.words in
      let wy = y.words in
      let px = x.peak in
      let py = y.peak in
      let c = greatest_append u cs ds in
      let f = folds_append k v worth ps qs in
      let e = made_append measure m n in
      record {
        taken = x.taken + y.taken;
        named = λ r.
            ap (λ t. t || is_in v (vars_made (m ++ n))) (in_append v vs ws)
            ∙ (ap (λ l. (is_in v vs || is_in v ws) || is_in v l) (vars_append m n)
            ∙ (ap (λ t. (is_in v vs || is_in v ws) || t) (in_append v (vars_made m) (vars_made n))
            ∙ (crossed (is_in v vs) (is_in v ws) (is_in v (vars_made m)) (is_in v (vars_made n))
            ∙ (ap (λ t. t || (is_in v ws || is_in v (vars_made n))) (x.named r) ∙ ap (λ t. p.named || t) (y.named r)))));
        calls = omega (arith, cx, cy, c, f);
        slot = omega (arith, sx, sy);
        words = omega (arith, wx, wy);
        peak = omega (arith, px, py, e);
      }

  alike : (vs ws cs ds : List ℕ) (ps qs : List (List ℕ)) (m : List Made) (from to : ℕ) (p : Tally) → is_in v ws ≡ is_in v vs → greatest u ds ≡ greatest u cs → folds k v worth qs ≡ folds k v worth ps →
      Tells vs cs ps m from to p → Tells ws ds qs m from to p
  alike vs ws cs ds ps qs m from to p e d f x =
      let c = x.calls in
      record { taken = x.taken; named = λ r. ap (λ t. t || is_in v (vars_made m)) e ∙ x.named r; calls = omega (arith, c, d, f); slot = x.slot; words = x.words; peak = x.peak }

  listed : (vs ws cs ds : List ℕ) (ps qs : List (List ℕ)) (m : List Made) (from to : ℕ) (p : Tally) → ws ≡ vs → ds ≡ cs → qs ≡ ps → Tells vs cs ps m from to p → Tells ws ds qs m from to p
  listed vs ws cs ds ps qs m from to p e d f x = alike vs ws cs ds ps qs m from to p (ap (is_in v) e) (ap (greatest u) d) (ap (folds k v worth) f) x

  took : (from n : ℕ) → Tells [] [] [] [] from (from + n) (taking n)
  took from n = record { taken = n; named = λ r. refl; calls = omega arith; slot = omega arith; words = omega arith; peak = omega arith }

  called_one : (from f : ℕ) → Tells [] (f ∷ []) [] [] from from (call_tally (u f))
  called_one from f = record { taken = 0; named = λ r. refl; calls = omega arith; slot = omega arith; words = omega arith; peak = omega arith }

  -- ---- terms

  read_told : (from : ℕ) (s : List Slot) (h : Bool) → seen i s ≡ h → (id : ℕ) → Tells (vars_in (read_as (stands text s id))) [] [] [] from from (naming_tally (names_alone i array h id))
  read_told from s h e id =
      record { taken = 0; named = λ r. or_none (is_in v (vars_in (read_as (stands text s id)))) ∙ reads r s h e id; calls = omega arith; slot = omega arith; words = omega arith; peak = omega arith }

  row_told : (from : ℕ) (s : List Slot) (h : Bool) → seen i s ≡ h → (id : ℕ) → Tells (row_as (stands text s id)) [] [] [] from from (naming_tally (names_indexed i array h id))
  row_told from s h e id =
      record { taken = 0; named = λ r. or_none (is_in v (row_as (stands text s id))) ∙ rows r s h e id; calls = omega arith; slot = omega arith; words = omega arith; peak = omega arith }

  mutual
    pub term_told : (from : ℕ) (s : List Slot) (h : Bool) → seen i s ≡ h → (e : Term) → Tells (vars_in (lower_term text s e)) (calls_of (lower_term text s e)) [] [] from from (of.of_term i array value h e)
    term_told from s h w (Num at n) = none_told from
    term_told from s h w (Read at name) = listed _ _ _ _ [] [] [] from from _ refl (read_calls (stands text s name.id)) refl (read_told from s h w name.id)
    term_told from s h w (Element at name e) =
        listed _ _ _ _ [] [] [] from from _ (element_vars (stands text s name.id) (lower_term text s e) name.place) (element_calls (stands text s name.id) (lower_term text s e) name.place) refl
        (two _ _ [] _ [] [] [] [] from from from _ _ (row_told from s h w name.id) (term_told from s h w e))
    term_told from s h w (Un at op a) = term_told from s h w a
    term_told from s h w (Bin at op a b) = two _ _ _ _ [] [] [] [] from from from _ _ (term_told from s h w a) (term_told from s h w b)
    term_told from s h w (And at a b) = two _ _ _ _ [] [] [] [] from from from _ _ (term_told from s h w a) (term_told from s h w b)
    term_told from s h w (Or at a b) = two _ _ _ _ [] [] [] [] from from from _ _ (term_told from s h w a) (term_told from s h w b)
    term_told from s h w (Choose at t a b) =
        let ct = calls_of (lower_term text s t) in
        let ca = calls_of (lower_term text s a) in
        let cb = calls_of (lower_term text s b) in
        listed _ _ (ct ++ (ca ++ cb)) ((ct ++ ca) ++ cb) [] [] [] from from _ refl (append_assoc ct ca cb) refl
        (two _ _ _ _ [] [] [] [] from from from _ _ (term_told from s h w t) (two _ _ _ _ [] [] [] [] from from from _ _ (term_told from s h w a) (term_told from s h w b)))
    term_told from s h w (Call at name args) = two [] _ (number_among is_int_function name.id text ∷ []) _ [] [] [] [] from from from _ _ (called_one from (number_among is_int_function name.id text)) (terms_told from s h w args)

    pub terms_told : (from : ℕ) (s : List Slot) (h : Bool) → seen i s ≡ h → (es : Terms) → Tells (vars_all (lower_terms text s es)) (calls_in (lower_terms text s es)) [] [] from from (of.of_terms i array value h es)
    terms_told from s h w no_terms = none_told from
    terms_told from s h w (more_terms e rest) = two _ _ _ _ [] [] [] [] from from from _ _ (term_told from s h w e) (terms_told from s h w rest)

  optional_told : (from : ℕ) (s : List Slot) (h : Bool) → seen i s ≡ h → (e : Option Term) → Tells (vars_in (optional_test text s e)) (calls_of (optional_test text s e)) [] [] from from (of.of_optional i array value h e)
  optional_told from s h w None = none_told from
  optional_told from s h w (Some e) = term_told from s h w e

  -- ---- statements without others

  elements_told : (from : ℕ) (s : List Slot) (h : Bool) → seen i s ≡ h → (slot size n : ℕ) (es : Terms) (place : Place) →
      let list = array_values text s slot size n es place in Tells (vars_list list) (stmts_calls list) (pars_in list) [] from from (of.of_terms i array value h es)
  elements_told from s h w slot size n no_terms place = none_told from
  elements_told from s h w slot size n (more_terms e rest) place =
      two _ _ _ _ [] _ [] [] from from from _ _ (term_told from s h w e) (elements_told from s h w slot size (suc n) rest place)

  local_told : (s : List Slot) (h : Bool) → seen i s ≡ h → (slot : ℕ) (size : Option Number) (es : Terms) (place : Place) →
      let a : Stmt =
      elim size [
        | Some n ↦ sequence (more_stmts (kernel.Clear slot (number_of n)) (array_values text s slot (number_of n) 0 es place))
        | None ↦ elim es [ no_terms ↦ kernel.Clear slot 1 | more_terms e rest ↦ kernel.Set (spot.Local slot) (lower_term text s e) ]
      ] in
      Tells (vars_of a) (stmt_calls a) (pars_of a) [] slot (slot + slots_of size) (both_tallies (taking (slots_of size)) (elim size [ None ↦ of.of_first i array value h es | Some n ↦ of.of_terms i array value h es ]))
  local_told s h w slot None no_terms place = two [] [] [] [] [] [] [] [] slot (slot + 1) (slot + 1) _ _ (took slot 1) (none_told (slot + 1))
  local_told s h w slot None (more_terms e rest) place = two [] _ [] _ [] [] [] [] slot (slot + 1) (slot + 1) _ _ (took slot 1) (term_told (slot + 1) s h w e)
  local_told s h w slot (Some n) es place =
      let list = more_stmts (kernel.Clear slot (number_of n)) (array_values text s slot (number_of n) 0 es place) in
      let to = slot + number_of n in
      listed _ _ _ _ _ _ [] slot to _ (sequence_vars list) (sequence_calls list) (sequence_pars list)
      (two [] _ [] _ [] _ [] [] slot to to _ _ (took slot (number_of n)) (elements_told to s h w slot (number_of n) 0 es place))

  pub locals_told : (s : List Slot) (h : Bool) → seen i s ≡ h → (slot : ℕ) (ls : List Declared) →
      let list = lower_locals text s slot ls in Tells (vars_list list) (stmts_calls list) (pars_in list) [] slot (slots_after text slot ls) (of.of_locals i array value h ls)
  locals_told s h w slot [] = none_told slot
  locals_told s h w slot (l ∷ rest) =
      two _ _ _ _ _ _ [] [] slot (slot + slots_of l.length) (slots_after text (slot + slots_of l.length) rest) _ _ (local_told s h w slot l.length l.values l.name.place)
      (locals_told (with_local_slots s slot (l ∷ [])) (hides i h l.name.id) (seen_locals i s slot (l ∷ []) h w) (slot + slots_of l.length) rest)

  target_told : (from : ℕ) (s : List Slot) (h : Bool) → seen i s ≡ h → (name : Name) (index : Option Term) (op : Option OpAt) (x : Expr) (q : Tally) → Tells (vars_in x) (calls_of x) [] [] from from q →
      let a : Stmt = elim index [ None ↦ assign_to (stands text s name.id) op x | Some e ↦ assign_at (stands text s name.id) op (lower_term text s e) x name.place ] in
      Tells (vars_of a) (stmt_calls a) (pars_of a) [] from from (both_tallies (elim index [ None ↦ naming_tally (names_alone i array h name.id) | Some e ↦ both_tallies (naming_tally (names_indexed i array h name.id)) (of.of_term i array value h e) ]) q)
  target_told from s h w name None op x q y =
      let st = stands text s name.id in
      alike _ _ _ _ [] _ [] from from _ (set_vars v st op x) (ap (greatest u) (set_calls st op x)) (ap (folds k v worth) (set_pars st op x)) (two _ _ [] _ [] [] [] [] from from from _ _ (read_told from s h w name.id) y)
  target_told from s h w name (Some e) op x q y =
      let st = stands text s name.id in
      let index = lower_term text s e in
      alike _ _ _ _ [] _ [] from from _ (at_vars v st op index x name.place) (at_calls u st op index x name.place) (ap (folds k v worth) (at_pars st op index x name.place))
      (two _ _ _ _ [] [] [] [] from from from _ _ (two _ _ [] _ [] [] [] [] from from from _ _ (row_told from s h w name.id) (term_told from s h w e)) y)

  sets_told : (from : ℕ) (s : List Slot) (h : Bool) → seen i s ≡ h → (slot : ℕ) (es : Terms) →
      let list = set_params text s slot es in Tells (vars_list list) (stmts_calls list) (pars_in list) [] from from (of.of_terms i array value h es)
  sets_told from s h w slot no_terms = none_told from
  sets_told from s h w slot (more_terms e rest) = two _ _ _ _ [] _ [] [] from from from _ _ (term_told from s h w e) (sets_told from s h w (suc slot) rest)

  -- ---- statements

  module _
      (called : ℕ → Inlined) (known : ℕ → Tally) (grown : (id first t : ℕ) (n : NextNumbers) → IsGrown t n (pars_of (called id first t n).stmt) (called id first t n).made (called id first t n).next)
      (right : (id first t : ℕ) (n : NextNumbers) → SitsIn k count n.thread (called id first t n).made →
      Tells (vars_of (called id first t n).stmt) (stmt_calls (called id first t n).stmt) (pars_of (called id first t n).stmt) (called id first t n).made n.slot (called id first t n).next.slot (known id)) where
    abbrev Branched : List Branch → List Made → ℕ → Tally → Type 0
    Branched ls made from p = Tells (vars_launches ls) (branch_calls ls) [] made from from p

    -- a branch is a thread of its own
    thread_told : (from params : ℕ) (t q : ℕ) (name : Option ℕ) (parameters : ℕ) (l : Lowered) (p : Tally) → Tells (vars_of l.stmt) (stmt_calls l.stmt) (pars_of l.stmt) l.made params l.next.slot p →
        Tells [] [] [] (low.made_thread t q name parameters l) from from (branch_tally params p)
    thread_told from params t q name parameters l p x =
        let c = x.calls in
        let s = x.slot in
        let w = x.words in
        let b = x.peak in
        record {
          taken = 0;
          named = λ r. in_append v (vars_of l.stmt) (vars_made l.made) ∙ x.named r;
          calls = omega arith;
          slot = omega arith;
          words = omega arith;
          peak = omega (arith, c, s, w, b);
        }

    -- a thread uses the variable where it, or a thread below it, names it
    uses_told : (thread : ℕ) (t q : ℕ) (name : Option ℕ) (parameters from : ℕ) (l : Lowered) (p : Tally) (rest : List Made) → Tells (vars_of l.stmt) (stmt_calls l.stmt) (pars_of l.stmt) l.made from l.next.slot p →
        SitsIn k count thread (low.made_thread t q name parameters l ++ rest) → Real → contains v (uses_of k thread) ≡ p.named
    uses_told thread t q name parameters from l p rest x z r =
        let here_ : thread ≡ thread + 0 = omega arith in
        let named = vars_of l.stmt ++ vars_made l.made in
        ap (λ n. contains v (uses_of k n)) here_
        ∙ (ap (contains v) (z 0 (omega arith)) ∙ (filtered named v 0 count (omega arith) (let e = inside r in omega (arith, e)) ∙ (in_append v (vars_of l.stmt) (vars_made l.made) ∙ x.named r)))

    below_sits : (thread : ℕ) (x : Made) (rest : List Made) → SitsIn k count thread (x ∷ rest) → SitsIn k count (suc thread) rest
    below_sits thread x rest z j l = let e : suc thread + j ≡ thread + suc j = omega arith in ap (uses_of k) e ∙ z (suc j) (omega arith)

    as_one : (l : low.Listed) (from : ℕ) (p : Tally) → Tells (vars_list l.list) (stmts_calls l.list) (pars_in l.list) l.made from l.next.slot p →
        Tells (vars_of (sequence l.list)) (stmt_calls (sequence l.list)) (pars_of (sequence l.list)) l.made from l.next.slot p
    as_one l from p x = listed _ _ _ _ _ _ l.made from l.next.slot p (sequence_vars l.list) (sequence_calls l.list) (sequence_pars l.list) x

    one_user : (b c : Bool) (m n : ℕ) → b ≡ c → m ≡ n → cond b (suc m) m ≡ cond c 1 0 + n
    one_user true true m n e d = omega (arith, d)
    one_user false false m n e d = omega (arith, d)
    one_user true false m n e d = cc
    one_user false true m n e d = cc

    folds_one : (threads : List ℕ) (n : ℕ) → (Real → users k threads v ≡ n) → folds k v worth (threads ∷ []) ≡ of.calls_worth i array value worth known n
    folds_one threads n h =
        ⊎_elim (λ r. (let e = ap (λ m. cond (nat_lt 1 m) worth 0) (h r) in omega (arith, e)))
        (λ z. (let a = no_worth (nat_lt 1 (users k threads v)) z in let b = no_worth (nat_lt 1 n) z in omega (arith, a, b))) either
      where
        no_worth : (b : Bool) → worth ≡ 0 → cond b worth 0 ≡ 0
        no_worth true z = z
        no_worth false z = refl

    par_listed : (ls : List Branch) (made : List Made) (from n : ℕ) (p : Tally) → Branched ls made from p → (Real → users k (threads_in ls) v ≡ n) → (ls ≡ [] → n ≡ 0) →
        Tells (vars_of (par_of ls)) (stmt_calls (par_of ls)) (pars_of (par_of ls)) made from from (both_tallies (call_tally (of.calls_worth i array value worth known n)) p)
    par_listed [] made from n p x h z =
        let e = ap (λ m. of.calls_worth i array value worth known m) (z refl) in
        let none : Tells [] [] [] [] from from (call_tally (of.calls_worth i array value worth known n)) = record { taken = 0; named = λ r. refl; calls = omega (arith, e); slot = omega arith; words = omega arith; peak = omega arith } in
        two [] _ [] _ [] [] [] made from from from _ p none x
    par_listed (b ∷ ls) made from n p x h z =
        let e = folds_one (threads_in (b ∷ ls)) n h in
        let one : Tells [] [] (threads_in (b ∷ ls) ∷ []) [] from from (call_tally (of.calls_worth i array value worth known n)) =
        record { taken = 0; named = λ r. refl; calls = omega (arith, e); slot = omega arith; words = omega arith; peak = omega arith } in
        two [] _ [] _ (threads_in (b ∷ ls) ∷ []) [] [] made from from from _ p one x

    list_thread : (t : ℕ) (s : List Slot) (n : NextNumbers) (a : Statements) → (lower_list text called t s n a).next.thread ≡ n.thread + length (lower_list text called t s n a).made
    list_thread t s n a = threads_grow (list_grows text called grown t s n a).grown

    perhaps_thread : (t : ℕ) (s : List Slot) (n : NextNumbers) (a : Perhaps) → (lower_perhaps text called t s n a).next.thread ≡ n.thread + length (lower_perhaps text called t s n a).made
    perhaps_thread t s n a = threads_grow (perhaps_grows text called grown t s n a).grown

    one_thread : (t : ℕ) (s : List Slot) (n : NextNumbers) (a : Statement) → (lower_statement text called t s n a).next.thread ≡ n.thread + length (lower_statement text called t s n a).made
    one_thread t s n a = threads_grow (grows text called grown t s n a).grown

    nop_of : (t : ℕ) (s : List Slot) (n : NextNumbers) (a : Perhaps) → a ≡ absent → (lower_perhaps text called t s n a).stmt ≡ kernel.Nop
    nop_of t s n a e = ap (λ x. (lower_perhaps text called t s n x).stmt) e

    branches_slot : (t : ℕ) (s : List Slot) (q : ℕ) (n : NextNumbers) (bs : Branches) → (lower_branches text called t s q n bs).next.slot ≡ n.slot
    branches_slot t s q n no_branches = refl
    branches_slot t s q n (by_call name args rest) =
        let b = called name.id 0 n.thread (record { slot = count_terms args; thread = suc n.thread; par = n.par }) in branches_slot t s q (record { slot = n.slot; thread = b.next.thread; par = b.next.par }) rest
    branches_slot t s q n (by_group at body rest) =
        let l = lower_list text called n.thread [] (record { slot = 0; thread = suc n.thread; par = n.par }) body in branches_slot t s q (record { slot = n.slot; thread = l.next.thread; par = l.next.par }) rest

    no_launch : (t : ℕ) (s : List Slot) (q : ℕ) (n : NextNumbers) (bs : Branches) → (lower_branches text called t s q n bs).launches ≡ [] → of.branches_naming i array value worth known bs ≡ 0
    no_launch t s q n no_branches e = refl
    no_launch t s q n (by_call name args rest) e = cc
    no_launch t s q n (by_group at body rest) e = cc

    ended : (vs cs : List ℕ) (ps : List (List ℕ)) (m : List Made) (from to other : ℕ) (p : Tally) → other ≡ to → Tells vs cs ps m from to p → Tells vs cs ps m from other p
    ended vs cs ps m from to other p e x = let s = x.slot in record { taken = x.taken; named = x.named; calls = x.calls; slot = omega (arith, e, s); words = x.words; peak = x.peak }

    mutual
      pub told : (t : ℕ) (s : List Slot) (n : NextNumbers) (h : Bool) (a : Statement) → seen i s ≡ h → SitsIn k count n.thread (lower_statement text called t s n a).made →
          let l = lower_statement text called t s n a in Tells (vars_of l.stmt) (stmt_calls l.stmt) (pars_of l.stmt) l.made n.slot l.next.slot (of.tally i array value worth known h a)
      told t s n h (Nothing at) w z = none_told n.slot
      told t s n h (Group at body) w z =
          let l = lower_list text called t s n body in listed _ _ _ _ _ _ l.made n.slot l.next.slot _ (sequence_vars l.list) (sequence_calls l.list) (sequence_pars l.list) (list_told t s n h body w z)
      told t s n h (Declare at locals) w z =
          let list = lower_locals text s n.slot locals in
          listed _ _ _ _ _ _ [] n.slot (slots_after text n.slot locals) _ (sequence_vars list) (sequence_calls list) (sequence_pars list) (locals_told s h w n.slot locals)
      told t s n h (Assign at target op e) w z = target_told n.slot s h w target.name target.index op (lower_term text s e) _ (term_told n.slot s h w e)
      told t s n h (Invoke at name args) w z =
          let to = n.slot + count_terms args in
          let l = called name.id n.slot t (low.from_slot n to) in
          let sets = set_params text s n.slot args in
          let x = two [] _ [] _ [] _ [] [] n.slot to to _ _ (took n.slot (count_terms args)) (sets_told to s h w n.slot args) in
          listed _ _ _ _ _ _ l.made n.slot l.next.slot _ (sequence_vars (ends_with sets l.stmt) ∙ ends_vars sets l.stmt) (sequence_calls (ends_with sets l.stmt) ∙ ends_calls sets l.stmt) (sequence_pars (ends_with sets l.stmt) ∙ ends_pars sets l.stmt)
          (two _ _ _ _ _ _ [] l.made n.slot to l.next.slot _ _ x (right name.id n.slot t (low.from_slot n to) z))
      told t s n h (If at test a b) w z =
          let l = lower_statement text called t s n a in
          let m = lower_perhaps text called t s l.next b in
          let ct = calls_of (lower_term text s test) in
          let x = told t s n h a w (sits_left k count n.thread l.made m.made z) in
          let y = perhaps_told t s l.next h b w (sits_right k count n.thread l.next.thread l.made m.made (one_thread t s n a) z) in
          listed _ _ (ct ++ (stmt_calls l.stmt ++ stmt_calls m.stmt)) ((ct ++ stmt_calls l.stmt) ++ stmt_calls m.stmt) _ _ (l.made ++ m.made) n.slot m.next.slot _ refl (append_assoc ct (stmt_calls l.stmt) (stmt_calls m.stmt)) refl
          (two _ _ _ _ [] _ [] (l.made ++ m.made) n.slot n.slot m.next.slot _ _ (term_told n.slot s h w test) (two _ _ _ _ _ _ l.made m.made n.slot l.next.slot m.next.slot _ _ x y))
      told t s n h (While at test bound body) w z =
          let l = lower_statement text called t s n body in two _ _ _ _ [] _ [] l.made n.slot n.slot l.next.slot _ _ (term_told n.slot s h w test) (told t s n h body w z)
      told t s n h (For at start test step bound body) w z =
          let scope = scope_after_perhaps text s n.slot start in
          let i0 = lower_perhaps text called t s n start in
          let j0 = lower_perhaps text called t scope i0.next step in
          let inner = scope_after_perhaps text scope i0.next.slot step in
          let l0 = lower_statement text called t inner j0.next body in
          let hidden = hides_after_perhaps i h start in
          let deeper = hides_after_perhaps i hidden step in
          let w1 = seen_perhaps i text s n.slot start h w in
          let w2 = seen_perhaps i text scope i0.next.slot step hidden w1 in
          let z1 = sits_right k count n.thread i0.next.thread i0.made (j0.made ++ l0.made) (perhaps_thread t s n start) z in
          let a = perhaps_told t s n h start w (sits_left k count n.thread i0.made (j0.made ++ l0.made) z) in
          let b = optional_told i0.next.slot scope hidden w1 test in
          let c = perhaps_told t scope i0.next hidden step w1 (sits_left k count i0.next.thread j0.made l0.made z1) in
          let d = told t inner j0.next deeper body w2 (sits_right k count i0.next.thread j0.next.thread j0.made l0.made (perhaps_thread t scope i0.next step) z1) in
          let e = optional_test text scope test in
          let turned = then_step step l0.stmt j0.stmt in
          let loop : Stmt = kernel.While e (or_inferred (bound_of bound) (Rattle.forec_tree.specs.Turns.inferred text (For at start test step bound body))) turned at in
          let none_i = nop_of t s n start in
          let none_j = nop_of t scope i0.next step in
          let vt = vars_of j0.stmt ++ vars_of l0.stmt in
          let ct = stmt_calls j0.stmt ++ stmt_calls l0.stmt in
          let pt = pars_of j0.stmt ++ pars_of l0.stmt in
          alike (vars_of i0.stmt ++ (vars_in e ++ vt)) _ (stmt_calls i0.stmt ++ (calls_of e ++ ct)) _ (pars_of i0.stmt ++ pt) _ (i0.made ++ (j0.made ++ l0.made)) n.slot l0.next.slot _
          (ap (is_in v) (start_vars start i0.stmt loop none_i) ∙ in_behind v (vars_of i0.stmt) (vars_in e ++ vars_of turned) (vars_in e ++ vt) (in_behind v (vars_in e) (vars_of turned) vt (step_vars v step l0.stmt j0.stmt none_j)))
          (ap (greatest u) (start_calls start i0.stmt loop none_i)
          ∙ most_behind u (stmt_calls i0.stmt) (calls_of e ++ stmt_calls turned) (calls_of e ++ ct) (most_behind u (calls_of e) (stmt_calls turned) ct (step_calls u step l0.stmt j0.stmt none_j)))
          (ap (folds k v worth) (start_pars start i0.stmt loop none_i) ∙ folds_behind k v worth (pars_of i0.stmt) (pars_of turned) pt (step_pars k v worth step l0.stmt j0.stmt none_j))
          (two _ _ _ _ _ _ i0.made (j0.made ++ l0.made) n.slot i0.next.slot l0.next.slot _ _ a
          (two _ _ _ _ [] _ [] (j0.made ++ l0.made) i0.next.slot i0.next.slot l0.next.slot _ _ b (two _ _ _ _ _ _ j0.made l0.made i0.next.slot j0.next.slot l0.next.slot _ _ c d)))
      told t s n h (Pause at) w z = none_told n.slot
      told t s n h (Par at bs) w z =
          let next : NextNumbers = record { slot = n.slot; thread = n.thread; par = par_after bs n.par } in
          let m = lower_branches text called t s n.par next bs in
          ended _ _ _ m.made n.slot n.slot m.next.slot _ (branches_slot t s n.par next bs)
          (par_listed m.launches m.made n.slot (of.branches_naming i array value worth known bs) _ (branches_told t s n.par next h bs w z) (users_told t s n.par next bs z) (no_launch t s n.par next bs))
      told t s n h (Abort at weak immediate test body) w z =
          let l = lower_list text called t s n body in
          listed _ _ _ _ _ _ l.made n.slot l.next.slot _ (ap (λ x. vars_in (lower_term text s test) ++ x) (sequence_vars l.list)) (ap (λ x. calls_of (lower_term text s test) ++ x) (sequence_calls l.list)) (sequence_pars l.list)
          (two _ _ _ _ [] _ [] l.made n.slot n.slot l.next.slot _ _ (term_told n.slot s h w test) (list_told t s n h body w z))
      told t s n h (Return at e) w z = term_told n.slot s h w e

      pub list_told : (t : ℕ) (s : List Slot) (n : NextNumbers) (h : Bool) (a : Statements) → seen i s ≡ h → SitsIn k count n.thread (lower_list text called t s n a).made →
          let l = lower_list text called t s n a in Tells (vars_list l.list) (stmts_calls l.list) (pars_in l.list) l.made n.slot l.next.slot (of.all_tally i array value worth known h a)
      list_told t s n h no_statements w z = none_told n.slot
      list_told t s n h (more_statements a rest) w z =
          let l = lower_statement text called t s n a in
          let scope = scope_after text s n.slot a in
          let m = lower_list text called t scope l.next rest in
          two _ _ _ _ _ _ l.made m.made n.slot l.next.slot m.next.slot _ _ (told t s n h a w (sits_left k count n.thread l.made m.made z))
          (list_told t scope l.next (hides_after i h a) rest (seen_behind i text s n.slot a h w) (sits_right k count n.thread l.next.thread l.made m.made (one_thread t s n a) z))

      perhaps_told : (t : ℕ) (s : List Slot) (n : NextNumbers) (h : Bool) (a : Perhaps) → seen i s ≡ h → SitsIn k count n.thread (lower_perhaps text called t s n a).made →
          let l = lower_perhaps text called t s n a in Tells (vars_of l.stmt) (stmt_calls l.stmt) (pars_of l.stmt) l.made n.slot l.next.slot (of.perhaps_tally i array value worth known h a)
      perhaps_told t s n h absent w z = none_told n.slot
      perhaps_told t s n h (present a) w z = told t s n h a w z

      branches_told : (t : ℕ) (s : List Slot) (q : ℕ) (n : NextNumbers) (h : Bool) (bs : Branches) → seen i s ≡ h → SitsIn k count n.thread (lower_branches text called t s q n bs).made →
          let m = lower_branches text called t s q n bs in Branched m.launches m.made n.slot (of.branches_tally i array value worth known h bs)
      branches_told t s q n h no_branches w z = none_told n.slot
      branches_told t s q n h (by_call name args rest) w z =
          let inner : NextNumbers = record { slot = count_terms args; thread = suc n.thread; par = n.par } in
          let b = called name.id 0 n.thread inner in
          let next : NextNumbers = record { slot = n.slot; thread = b.next.thread; par = b.next.par } in
          let m = lower_branches text called t s q next rest in
          let params = length (param_names (find_function name.id text)) in
          let first = low.made_thread t q (Some name.id) params b in
          let grew = threads_grow (grown name.id 0 n.thread inner).grown in
          let own = right name.id 0 n.thread inner (sits_left k count (suc n.thread) b.made m.made (below_sits n.thread _ (b.made ++ m.made) z)) in
          let x = two _ [] _ [] [] [] [] first n.slot n.slot n.slot _ _ (terms_told n.slot s h w args) (thread_told n.slot (count_terms args) t q (Some name.id) params b (known name.id) own) in
          listed _ _ _ _ [] [] (first ++ m.made) n.slot n.slot _ (ap (λ l. l ++ vars_launches m.launches) (sym (append-nil (vars_all (lower_terms text s args))))) (ap (λ l. l ++ branch_calls m.launches) (sym (append-nil (calls_in (lower_terms text s args))))) refl
          (two _ _ _ _ [] [] first m.made n.slot n.slot n.slot _ _ x (branches_told t s q next h rest w (sits_right k count n.thread b.next.thread first m.made (omega (arith, grew)) z)))
      branches_told t s q n h (by_group at body rest) w z =
          let inner : NextNumbers = record { slot = 0; thread = suc n.thread; par = n.par } in
          let l = lower_list text called n.thread [] inner body in
          let b : Lowered = record { stmt = sequence l.list; next = l.next; made = l.made } in
          let next : NextNumbers = record { slot = n.slot; thread = l.next.thread; par = l.next.par } in
          let m = lower_branches text called t s q next rest in
          let first = low.made_thread t q None 0 b in
          let grew = list_thread n.thread [] inner body in
          let own = as_one l 0 _ (list_told n.thread [] inner false body refl (sits_left k count (suc n.thread) l.made m.made (below_sits n.thread _ (l.made ++ m.made) z))) in
          two [] _ [] _ [] [] first m.made n.slot n.slot n.slot _ _ (thread_told n.slot 0 t q None 0 b _ own)
          (branches_told t s q next h rest w (sits_right k count n.thread l.next.thread first m.made (omega (arith, grew)) z))

      users_told : (t : ℕ) (s : List Slot) (q : ℕ) (n : NextNumbers) (bs : Branches) → SitsIn k count n.thread (lower_branches text called t s q n bs).made → Real →
          users k (threads_in (lower_branches text called t s q n bs).launches) v ≡ of.branches_naming i array value worth known bs
      users_told t s q n no_branches z r = refl
      users_told t s q n (by_call name args rest) z r =
          let inner : NextNumbers = record { slot = count_terms args; thread = suc n.thread; par = n.par } in
          let b = called name.id 0 n.thread inner in
          let next : NextNumbers = record { slot = n.slot; thread = b.next.thread; par = b.next.par } in
          let m = lower_branches text called t s q next rest in
          let params = length (param_names (find_function name.id text)) in
          let first = low.made_thread t q (Some name.id) params b in
          let grew = threads_grow (grown name.id 0 n.thread inner).grown in
          let own = right name.id 0 n.thread inner (sits_left k count (suc n.thread) b.made m.made (below_sits n.thread _ (b.made ++ m.made) z)) in
          one_user (contains v (uses_of k n.thread)) (known name.id).named (users k (threads_in m.launches) v) (of.branches_naming i array value worth known rest)
          (uses_told n.thread t q (Some name.id) params (count_terms args) b (known name.id) m.made own z r) (users_told t s q next rest (sits_right k count n.thread b.next.thread first m.made (omega (arith, grew)) z) r)
      users_told t s q n (by_group at body rest) z r =
          let inner : NextNumbers = record { slot = 0; thread = suc n.thread; par = n.par } in
          let l = lower_list text called n.thread [] inner body in
          let b : Lowered = record { stmt = sequence l.list; next = l.next; made = l.made } in
          let next : NextNumbers = record { slot = n.slot; thread = l.next.thread; par = l.next.par } in
          let m = lower_branches text called t s q next rest in
          let first = low.made_thread t q None 0 b in
          let grew = list_thread n.thread [] inner body in
          let own = as_one l 0 _ (list_told n.thread [] inner false body refl (sits_left k count (suc n.thread) l.made m.made (below_sits n.thread _ (l.made ++ m.made) z))) in
          one_user (contains v (uses_of k n.thread)) (of.all_tally i array value worth known false body).named (users k (threads_in m.launches) v) (of.branches_naming i array value worth known rest)
          (uses_told n.thread t q None 0 0 b _ m.made own z r) (users_told t s q next rest (sits_right k count n.thread l.next.thread first m.made (omega (arith, grew)) z) r)

  -- ---- functions that are put in place

  body_told : (called : ℕ → Inlined) (known : ℕ → Tally) → ((id first t : ℕ) (n : NextNumbers) → IsGrown t n (pars_of (called id first t n).stmt) (called id first t n).made (called id first t n).next) →
      ((id first t : ℕ) (n : NextNumbers) → SitsIn k count n.thread (called id first t n).made →
      Tells (vars_of (called id first t n).stmt) (stmt_calls (called id first t n).stmt) (pars_of (called id first t n).stmt) (called id first t n).made n.slot (called id first t n).next.slot (known id)) →
      (f : Option PlainFunction) (first t : ℕ) (n : NextNumbers) → let l = inlined_body text called f first t n in
      SitsIn k count n.thread l.made → Tells (vars_of l.stmt) (stmt_calls l.stmt) (pars_of l.stmt) l.made n.slot l.next.slot (of.body_tally i array value worth known f)
  body_told called known grown right None first t n z = none_told n.slot
  body_told called known grown right (Some f) first t n z =
      let l = lower_list text called t (params_at first f.params) n f.body in
      listed _ _ _ _ _ _ l.made n.slot l.next.slot _ (sequence_vars l.list) (sequence_calls l.list) (sequence_pars l.list)
      (list_told called known grown right t (params_at first f.params) n (hides_params i false f.params) f.body (seen_params i f.params first) z)

  pub place_told : (deep id first t : ℕ) (n : NextNumbers) → let l = within nothing_inlined (inlined_step text) deep id first t n in
      SitsIn k count n.thread l.made → Tells (vars_of l.stmt) (stmt_calls l.stmt) (pars_of l.stmt) l.made n.slot l.next.slot (within no_tally (of.tally_step i array value worth text) deep id)
  unfolding within
  place_told zero id first t n z = none_told n.slot
  place_told (suc deep) id first t n z =
      body_told (within nothing_inlined (inlined_step text) deep) (within no_tally (of.tally_step i array value worth text) deep) (inlined_grows text deep) (place_told deep) (find_function id text) first t n z
