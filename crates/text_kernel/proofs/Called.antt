-- The calls in the body of an int function are calls of its text, so no int function of the kernel reaches itself.
use Rattle.std.proofs.Common.{ℕ, suc, ◌+◌, ◌<◌, ◌≡◌, ◌∙◌, ◌==◌, sym, ap, refl, ◌⊎◌, inl, inr, ⊎_elim, IsTrue, Bool, true, false, cond, Option, Some, None, List, [], ◌∷◌, ◌++◌, append_assoc, append-nil, length, subst, arith}
use Rattle.std.proofs.lemmas.Bool.Decides.{nat_tests}
use Rattle.forec_base.specs.declared.Place.{Place}
use Rattle.forec_tree.specs.declared.tree.Name.{Name}
use Rattle.forec_tree.specs.declared.tree.Number.{Number}
use Rattle.forec_tree.specs.declared.tree.OpAt.{OpAt}
use Rattle.forec_tree.specs.declared.uses.Seen.{Seen}
use Rattle.forec_tree.specs.declared.uses.Meaning.{Meaning}
use Rattle.forec_tree.specs.declared.uses.Meaning.TheVariants as means
use Rattle.forec_tree.specs.declared.uses.How.TheVariants.{Reads, Indexes, Writes, WritesAt, Computes, Runs, Starts}
use Rattle.forec_tree.specs.Terms.{Term, Num, Read, Element, Un, Bin, And, Or, Choose, Call, Terms, no_terms, more_terms, count_terms, Declared, Statement, Declare, Nothing, Group, Assign, Invoke, If, While, For, Pause, Par, Abort, Return, Statements, no_statements, more_statements, Perhaps, absent, present, Text, PlainItem, PlainFunction, IsGlobal, IsFunction}
use Rattle.forec_tree.specs.Scopes.{Scope, no_scope, inner_scope, after, after_perhaps, with_name, with_params, is_among, is_array, find_item, find_last, local_meaning, item_meaning, meaning}
use Rattle.forec_tree.specs.Findings.{Finding, Use, Declares, Bound, Loop, Synchronous, Gives, Opens, Closes, use_at, in_bound, in_term, in_terms, in_optional, in_locals, in_target, in_statement, in_statements, in_perhaps, in_branches, in_params}
use Rattle.forec_tree.specs.Rules.{Judging, fault_if, use_faults, findings_faults}
use Rattle.forec_tree.specs.Faults.{Member, in_function, functions_called, called_in, is_in}
use Rattle.forec_tree.proofs.Agrees.{in_left, in_right}
use Rattle.forec_kernel.specs.Terms as kernel
use Rattle.forec_kernel.specs.Terms.{Expr, Exprs, Stmt, Stmts, no_stmts, more_stmts}
use Rattle.forec_kernel.specs.Combining.{contains}
use Rattle.forec_kernel.specs.WellFormed as wf
use Rattle.forec_kernel.specs.WellFormed.{calls_in, stmt_calls, stmts_calls, function_body, Ranked}
use Rattle.text_kernel.specs.declared.names.Slot.{Slot}
use Rattle.text_kernel.specs.declared.names.Stands.{Stands}
use Rattle.text_kernel.specs.declared.names.Stands.TheVariants as st
use Rattle.text_kernel.specs.Bindings.{with_local_slots, params_at, slots_of, number_of, number_among, is_int_function}
use Rattle.text_kernel.specs.Lowering.{NextNumbers, stands, read_as, element_as, lower_term, lower_terms, sequence, ends_with, operated_expr, assign_to, assign_at, array_values, lower_local, lower_locals, set_params, optional_test, lower_target, lower_statement, lower_list, lower_perhaps, scope_after, scope_after_perhaps, after_start, then_step}
use Rattle.text_kernel.specs.Kernels as kernels
use Rattle.text_kernel.specs.Kernels.{kernel_of, int_functions}
use Rattle.text_kernel.proofs.Fine.{none_left, none_right, not_broken, parts_left, parts_right, GoodUse, good_use}
use Rattle.text_kernel.proofs.Faultless.{Clean, function_of, own_item}
use Rattle.text_kernel.proofs.Known.{first_of, first_id, function_at, blank_function}
use Rattle.text_kernel.proofs.Functions.{nothing, int_function, int_at, function_low, body_of_function}
use Rattle.text_kernel.proofs.Ranks.{rank, rank_along}

-- ---- lists

pub in_two : (v : ℕ) (xs ys : List ℕ) → contains v (xs ++ ys) ≡ true → (contains v xs ≡ true) ⊎ (contains v ys ≡ true)
in_two v [] ys h = inr h
in_two v (x ∷ xs) ys h = pick (x == v) (in_two v xs ys) h
  where
    pick : (b : Bool) → (contains v (xs ++ ys) ≡ true → (contains v xs ≡ true) ⊎ (contains v ys ≡ true)) → cond b true (contains v (xs ++ ys)) ≡ true →
        (cond b true (contains v xs) ≡ true) ⊎ (contains v ys ≡ true)
    pick true k g = inl refl
    pick false k g = k g

called_append : (fs gs : List Finding) → called_in (fs ++ gs) ≡ called_in fs ++ called_in gs
called_append [] gs = refl
called_append (Use (Computes n) name (means.Function gives params) ∷ fs) gs = ap (λ l. name.id ∷ l) (called_append fs gs)
called_append (Use (Runs n) name (means.Function gives params) ∷ fs) gs = ap (λ l. name.id ∷ l) (called_append fs gs)
called_append (Use (Starts n) name (means.Function gives params) ∷ fs) gs = ap (λ l. name.id ∷ l) (called_append fs gs)
called_append (Use Reads name (means.Function gives params) ∷ fs) gs = called_append fs gs
called_append (Use Indexes name (means.Function gives params) ∷ fs) gs = called_append fs gs
called_append (Use Writes name (means.Function gives params) ∷ fs) gs = called_append fs gs
called_append (Use WritesAt name (means.Function gives params) ∷ fs) gs = called_append fs gs
called_append (Use how name means.Unknown ∷ fs) gs = called_append fs gs
called_append (Use how name (means.Local array) ∷ fs) gs = called_append fs gs
called_append (Use how name (means.Global kind array) ∷ fs) gs = called_append fs gs
called_append (Declares name again size values ∷ fs) gs = called_append fs gs
called_append (Bound n ∷ fs) gs = called_append fs gs
called_append (Loop x ∷ fs) gs = called_append fs gs
called_append (Synchronous place ∷ fs) gs = called_append fs gs
called_append (Gives place ∷ fs) gs = called_append fs gs
called_append (Opens ∷ fs) gs = called_append fs gs
called_append (Closes ∷ fs) gs = called_append fs gs

-- ---- numbers of int functions that some findings call

pub record Named (text : Text) (fs : List Finding) (c : ℕ) : Type 0 where
  pub id : ℕ
  pub called : is_in id (called_in fs) ≡ true
  pub function : PlainFunction
  pub found : find_item id text ≡ Some (IsFunction function)
  pub gives : function.gives ≡ true
  pub is : c ≡ number_among is_int_function id text

abbrev pub AllNamed : Text → List Finding → List ℕ → Type 0
AllNamed text fs xs = (c : ℕ) → contains c xs ≡ true → Named text fs c

pub read_calls : (x : Stands) → wf.calls_of (read_as x) ≡ []
read_calls (st.AtSlot slot) = refl
read_calls (st.AtSlots slot size) = refl
read_calls (st.AsVariable v) = refl
read_calls (st.AsVariables v n) = refl
read_calls (st.AsNumber n) = refl
read_calls (st.AsTable t) = refl
read_calls st.AsNothing = refl

pub element_calls : (x : Stands) (i : Expr) (place : Place) → wf.calls_of (element_as x i place) ≡ wf.calls_of i
element_calls (st.AtSlot slot) i place = refl
element_calls (st.AtSlots slot size) i place = refl
element_calls (st.AsVariable v) i place = refl
element_calls (st.AsVariables v n) i place = refl
element_calls (st.AsNumber n) i place = refl
element_calls (st.AsTable t) i place = refl
element_calls st.AsNothing i place = refl

module _ (text : Text) where
  none_named : (fs : List Finding) → AllNamed text fs []
  none_named fs c h = cc

  both_named : (fs : List Finding) (xs ys : List ℕ) → AllNamed text fs xs → AllNamed text fs ys → AllNamed text fs (xs ++ ys)
  both_named fs xs ys h g c i = ⊎_elim (λ k. h c k) (λ k. g c k) (in_two c xs ys i)

  left_named : (fs gs : List Finding) (xs : List ℕ) → AllNamed text fs xs → AllNamed text (fs ++ gs) xs
  left_named fs gs xs h c i =
      let n = h c i in
      record { id = n.id; called = ap (is_in n.id) (called_append fs gs) ∙ in_left n.id (called_in fs) (called_in gs) n.called; function = n.function; found = n.found; gives = n.gives; is = n.is }

  right_named : (fs gs : List Finding) (xs : List ℕ) → AllNamed text gs xs → AllNamed text (fs ++ gs) xs
  right_named fs gs xs h c i =
      let n = h c i in
      record { id = n.id; called = ap (is_in n.id) (called_append fs gs) ∙ in_right n.id (called_in fs) (called_in gs) n.called; function = n.function; found = n.found; gives = n.gives; is = n.is }

  -- two parts, one after the other
  parts_named : (fs gs : List Finding) (xs ys : List ℕ) → AllNamed text fs xs → AllNamed text gs ys → AllNamed text (fs ++ gs) (xs ++ ys)
  parts_named fs gs xs ys h g = both_named (fs ++ gs) xs ys (left_named fs gs xs h) (right_named fs gs ys g)

  moved_named : (fs : List Finding) (xs ys : List ℕ) → ys ≡ xs → AllNamed text fs xs → AllNamed text fs ys
  moved_named fs xs ys e h c i = h c (ap (contains c) (sym e) ∙ i)

  -- ---- the function that a call names

  record Computed (n : ℕ) (name : Name) (m : Meaning) : Type 0 where
    function : PlainFunction
    found : find_item name.id text ≡ Some (IsFunction function)
    gives : function.gives ≡ true
    called : (fs : List Finding) → called_in (Use (Computes n) name m ∷ fs) ≡ name.id ∷ called_in fs

  computed : (gives : Bool) (n : ℕ) (name : Name) (o : Option Seen) (i : Option PlainItem) → find_item name.id text ≡ i → GoodUse gives (Computes n) (local_meaning o (item_meaning i)) →
      Computed n name (local_meaning o (item_meaning i))
  computed gives n name (Some x) i e u = let bad = u.fits in cc
  computed gives n name None None e u = let bad = u.known in cc
  computed gives n name None (Some (IsGlobal g)) e u = let bad = u.fits in cc
  computed gives n name None (Some (IsFunction f)) e u = record { function = f; found = e; gives = u.fits; called = λ fs. refl }

  call_named : (j : Judging) (sc : Scope) (name : Name) (n : ℕ) (fs : List Finding) (xs : List ℕ) → use_faults j (Computes n) name (meaning text sc name.id) ≡ [] → AllNamed text fs xs →
      AllNamed text (use_at text sc (Computes n) name ∷ fs) (number_among is_int_function name.id text ∷ xs)
  call_named j sc name n fs xs h g c i =
      let d = computed j.gives n name (find_last name.id None (sc.outer ++ sc.here)) (find_item name.id text) refl (good_use j (Computes n) name (meaning text sc name.id) h) in
      let first = number_among is_int_function name.id text in
      ⊎_elim
      (λ (e : c ≡ first). record {
        id = name.id;
        called = ap (is_in name.id) (d.called fs) ∙ (let same : (name.id == name.id) ≡ true = grind (arith, nat_tests) in ap (λ b. cond b true (is_in name.id (called_in fs))) same);
        function = d.function;
        found = d.found;
        gives = d.gives;
        is = e;
      })
      (λ k. right_named (use_at text sc (Computes n) name ∷ []) fs xs g c k)
      (head_or first c xs i)
    where
      head_or : (f c : ℕ) (xs : List ℕ) → contains c (f ∷ xs) ≡ true → (c ≡ f) ⊎ (contains c xs ≡ true)
      head_or f c xs h = pick (f == c) refl
        where
          pick : (b : Bool) → (f == c) ≡ b → (c ≡ f) ⊎ (contains c xs ≡ true)
          pick true e = inl (grind (arith, nat_tests))
          pick false e = inr (sym (ap (λ b. cond b true (contains c xs)) e) ∙ h)

  module _ (j : Judging) (gives : j.gives ≡ true) where
    mutual
      term_named : (sc : Scope) (s : List Slot) (e : Term) → findings_faults j (in_term text sc e) ≡ [] → AllNamed text (in_term text sc e) (wf.calls_of (lower_term text s e))
      term_named sc s (Num at n) h = none_named []
      term_named sc s (Read at name) h = moved_named (in_term text sc (Read at name)) [] _ (read_calls (stands text s name.id)) (none_named (in_term text sc (Read at name)))
      term_named sc s (Element at name i) h =
          let own = use_at text sc Indexes name ∷ [] in
          moved_named (own ++ in_term text sc i) (wf.calls_of (lower_term text s i)) _ (element_calls (stands text s name.id) (lower_term text s i) name.place)
          (right_named own (in_term text sc i) (wf.calls_of (lower_term text s i)) (term_named sc s i (parts_right j own (in_term text sc i) h)))
      term_named sc s (Un at op a) h = term_named sc s a h
      term_named sc s (Bin at op a b) h =
          parts_named (in_term text sc a) (in_term text sc b) _ _ (term_named sc s a (parts_left j (in_term text sc a) (in_term text sc b) h)) (term_named sc s b (parts_right j (in_term text sc a) (in_term text sc b) h))
      term_named sc s (And at a b) h =
          parts_named (in_term text sc a) (in_term text sc b) _ _ (term_named sc s a (parts_left j (in_term text sc a) (in_term text sc b) h)) (term_named sc s b (parts_right j (in_term text sc a) (in_term text sc b) h))
      term_named sc s (Or at a b) h =
          parts_named (in_term text sc a) (in_term text sc b) _ _ (term_named sc s a (parts_left j (in_term text sc a) (in_term text sc b) h)) (term_named sc s b (parts_right j (in_term text sc a) (in_term text sc b) h))
      term_named sc s (Choose at t a b) h =
          let r = parts_right j (in_term text sc t) (in_term text sc a ++ in_term text sc b) h in
          moved_named (in_term text sc (Choose at t a b)) (wf.calls_of (lower_term text s t) ++ (wf.calls_of (lower_term text s a) ++ wf.calls_of (lower_term text s b))) _
          (append_assoc (wf.calls_of (lower_term text s t)) (wf.calls_of (lower_term text s a)) (wf.calls_of (lower_term text s b)))
          (parts_named (in_term text sc t) (in_term text sc a ++ in_term text sc b) _ _ (term_named sc s t (parts_left j (in_term text sc t) (in_term text sc a ++ in_term text sc b) h))
          (parts_named (in_term text sc a) (in_term text sc b) _ _ (term_named sc s a (parts_left j (in_term text sc a) (in_term text sc b) r)) (term_named sc s b (parts_right j (in_term text sc a) (in_term text sc b) r))))
      term_named sc s (Call at name args) h =
          let how = Computes (count_terms args) in
          let own = use_faults j how name (meaning text sc name.id) in
          call_named j sc name (count_terms args) (in_terms text sc args) (calls_in (lower_terms text s args)) (none_left own (findings_faults j (in_terms text sc args)) h)
          (terms_named sc s args (none_right own (findings_faults j (in_terms text sc args)) h))

      terms_named : (sc : Scope) (s : List Slot) (es : Terms) → findings_faults j (in_terms text sc es) ≡ [] → AllNamed text (in_terms text sc es) (calls_in (lower_terms text s es))
      terms_named sc s no_terms h = none_named []
      terms_named sc s (more_terms e rest) h =
          parts_named (in_term text sc e) (in_terms text sc rest) _ _ (term_named sc s e (parts_left j (in_term text sc e) (in_terms text sc rest) h)) (terms_named sc s rest (parts_right j (in_term text sc e) (in_terms text sc rest) h))

    -- ---- statements

    sequence_calls : (list : Stmts) → stmt_calls (sequence list) ≡ stmts_calls list
    sequence_calls no_stmts = refl
    sequence_calls (more_stmts a no_stmts) = sym (append-nil (stmt_calls a))
    sequence_calls (more_stmts a (more_stmts b rest)) = refl

    ends_calls : (list : Stmts) → stmts_calls (ends_with list (sequence no_stmts)) ≡ stmts_calls list
    ends_calls no_stmts = refl
    ends_calls (more_stmts b rest) = ap (λ l. stmt_calls b ++ l) (ends_calls rest)

    operated_named : (fs : List Finding) (op : Option OpAt) (old value : Expr) → AllNamed text fs (wf.calls_of old) → AllNamed text fs (wf.calls_of value) → AllNamed text fs (wf.calls_of (operated_expr op old value))
    operated_named fs None old value h g = g
    operated_named fs (Some o) old value h g = both_named fs (wf.calls_of old) (wf.calls_of value) h g

    to_named : (fs : List Finding) (x : Stands) (op : Option OpAt) (value : Expr) → AllNamed text fs (wf.calls_of value) → AllNamed text fs (stmt_calls (assign_to x op value))
    to_named fs (st.AtSlot slot) op value g = operated_named fs op (kernel.Local slot) value (none_named fs) g
    to_named fs (st.AsVariable v) op value g = operated_named fs op (kernel.Var v) value (none_named fs) g
    to_named fs (st.AtSlots slot size) op value g = operated_named fs op (kernel.Num (Rattle.std.specs.Prelude.pos 0)) value (none_named fs) g
    to_named fs (st.AsVariables v n) op value g = operated_named fs op (kernel.Num (Rattle.std.specs.Prelude.pos 0)) value (none_named fs) g
    to_named fs (st.AsNumber n) op value g = operated_named fs op (kernel.Num (Rattle.std.specs.Prelude.pos 0)) value (none_named fs) g
    to_named fs (st.AsTable t) op value g = operated_named fs op (kernel.Num (Rattle.std.specs.Prelude.pos 0)) value (none_named fs) g
    to_named fs st.AsNothing op value g = operated_named fs op (kernel.Num (Rattle.std.specs.Prelude.pos 0)) value (none_named fs) g

    at_named : (fs : List Finding) (x : Stands) (op : Option OpAt) (i value : Expr) (place : Place) → AllNamed text fs (wf.calls_of i) → AllNamed text fs (wf.calls_of value) →
        AllNamed text fs (stmt_calls (assign_at x op i value place))
    at_named fs (st.AtSlots slot size) op i value place h g = both_named fs (wf.calls_of i) _ h (operated_named fs op (kernel.LocalAt slot size i place) value h g)
    at_named fs (st.AtSlot slot) op i value place h g = both_named fs (wf.calls_of i) _ h (operated_named fs op (kernel.LocalAt 0 0 i place) value h g)
    at_named fs (st.AsVariable v) op i value place h g = both_named fs (wf.calls_of i) _ h (operated_named fs op (kernel.LocalAt 0 0 i place) value h g)
    at_named fs (st.AsVariables v n) op i value place h g = both_named fs (wf.calls_of i) _ h (operated_named fs op (kernel.SharedAt v n i place) value h g)
    at_named fs (st.AsNumber n) op i value place h g = both_named fs (wf.calls_of i) _ h (operated_named fs op (kernel.LocalAt 0 0 i place) value h g)
    at_named fs (st.AsTable t) op i value place h g = both_named fs (wf.calls_of i) _ h (operated_named fs op (kernel.LocalAt 0 0 i place) value h g)
    at_named fs st.AsNothing op i value place h g = both_named fs (wf.calls_of i) _ h (operated_named fs op (kernel.LocalAt 0 0 i place) value h g)

    target_named : (sc : Scope) (s : List Slot) (name : Name) (index : Option Term) (op : Option OpAt) (value : Term) →
        findings_faults j (in_target text sc (record { name = name; index = index }) ++ in_term text sc value) ≡ [] →
        AllNamed text (in_target text sc (record { name = name; index = index }) ++ in_term text sc value) (stmt_calls (lower_target text s (record { name = name; index = index }) op (lower_term text s value)))
    target_named sc s name None op value h =
        let own = use_at text sc Writes name ∷ [] in
        to_named (own ++ in_term text sc value) (stands text s name.id) op (lower_term text s value)
        (right_named own (in_term text sc value) _ (term_named sc s value (parts_right j own (in_term text sc value) h)))
    target_named sc s name (Some i) op value h =
        let own = use_at text sc WritesAt name ∷ [] in
        let index = own ++ in_term text sc i in
        let hi = parts_right j own (in_term text sc i) (parts_left j index (in_term text sc value) h) in
        at_named (index ++ in_term text sc value) (stands text s name.id) op (lower_term text s i) (lower_term text s value) name.place
        (left_named index (in_term text sc value) _ (right_named own (in_term text sc i) _ (term_named sc s i hi)))
        (right_named index (in_term text sc value) _ (term_named sc s value (parts_right j index (in_term text sc value) h)))

    values_named : (sc : Scope) (s : List Slot) (slot size n : ℕ) (es : Terms) (place : Place) → findings_faults j (in_terms text sc es) ≡ [] →
        AllNamed text (in_terms text sc es) (stmts_calls (array_values text s slot size n es place))
    values_named sc s slot size n no_terms place h = none_named []
    values_named sc s slot size n (more_terms e rest) place h =
        parts_named (in_term text sc e) (in_terms text sc rest) (wf.calls_of (lower_term text s e)) _ (term_named sc s e (parts_left j (in_term text sc e) (in_terms text sc rest) h))
        (values_named sc s slot size (suc n) rest place (parts_right j (in_term text sc e) (in_terms text sc rest) h))

    local_named : (sc : Scope) (s : List Slot) (slot : ℕ) (name : Name) (size : Option Number) (es : Terms) → findings_faults j (in_terms text sc es) ≡ [] →
        AllNamed text (in_terms text sc es) (stmt_calls (lower_local text s slot (record { name = name; length = size; values = es })))
    local_named sc s slot name None no_terms h = none_named []
    local_named sc s slot name None (more_terms e rest) h = left_named (in_term text sc e) (in_terms text sc rest) _ (term_named sc s e (parts_left j (in_term text sc e) (in_terms text sc rest) h))
    local_named sc s slot name (Some n) es h =
        moved_named (in_terms text sc es) _ _ (sequence_calls (more_stmts (kernel.Clear slot (number_of n)) (array_values text s slot (number_of n) 0 es name.place)))
        (values_named sc s slot (number_of n) 0 es name.place h)

    locals_named : (sc : Scope) (s : List Slot) (slot : ℕ) (ls : List Declared) → findings_faults j (in_locals text sc ls) ≡ [] → AllNamed text (in_locals text sc ls) (stmts_calls (lower_locals text s slot ls))
    locals_named sc s slot [] h = none_named []
    locals_named sc s slot (d ∷ rest) h =
        let own = Declares d.name (is_among d.name.id sc.here) d.length (count_terms d.values) ∷ [] in
        let first = own ++ in_terms text sc d.values in
        let more = in_locals text (with_name sc d.name.id (is_array d.length)) rest in
        parts_named first more (stmt_calls (lower_local text s slot d)) (stmts_calls (lower_locals text (with_local_slots s slot (d ∷ [])) (slot + slots_of d.length) rest))
        (right_named own (in_terms text sc d.values) _ (local_named sc s slot d.name d.length d.values (parts_right j own (in_terms text sc d.values) (parts_left j first more h))))
        (locals_named (with_name sc d.name.id (is_array d.length)) (with_local_slots s slot (d ∷ [])) (slot + slots_of d.length) rest (parts_right j first more h))

    sets_named : (sc : Scope) (s : List Slot) (slot : ℕ) (es : Terms) → findings_faults j (in_terms text sc es) ≡ [] → AllNamed text (in_terms text sc es) (stmts_calls (set_params text s slot es))
    sets_named sc s slot no_terms h = none_named []
    sets_named sc s slot (more_terms e rest) h =
        parts_named (in_term text sc e) (in_terms text sc rest) (wf.calls_of (lower_term text s e)) _ (term_named sc s e (parts_left j (in_term text sc e) (in_terms text sc rest) h))
        (sets_named sc s (suc slot) rest (parts_right j (in_term text sc e) (in_terms text sc rest) h))

    optional_named : (sc : Scope) (s : List Slot) (e : Option Term) → findings_faults j (in_optional text sc e) ≡ [] → AllNamed text (in_optional text sc e) (wf.calls_of (optional_test text s e))
    optional_named sc s None h = none_named []
    optional_named sc s (Some e) h = term_named sc s e h

    after_calls : (start : Perhaps) (t : ℕ) (s : List Slot) (n : NextNumbers) (loop : Stmt) →
        let i = lower_perhaps text nothing t s n start in stmt_calls (after_start start i.stmt loop) ≡ stmt_calls i.stmt ++ stmt_calls loop
    after_calls absent t s n loop = refl
    after_calls (present a) t s n loop = ap (λ l. stmt_calls (lower_statement text nothing t s n a).stmt ++ l) (append-nil (stmt_calls loop))

    step_calls : (step : Perhaps) (t : ℕ) (s : List Slot) (n : NextNumbers) (body : Stmt) →
        let d = lower_perhaps text nothing t s n step in stmt_calls (then_step step body d.stmt) ≡ stmt_calls body ++ stmt_calls d.stmt
    step_calls absent t s n body = sym (append-nil (stmt_calls body))
    step_calls (present a) t s n body = ap (λ l. stmt_calls body ++ l) (append-nil (stmt_calls (lower_statement text nothing t s n a).stmt))

    no_pause : {P : Type 0} (place : Place) (fs : List Finding) → findings_faults j (Synchronous place ∷ fs) ≡ [] → P
    no_pause place fs h = let bad : true ≡ false = sym gives ∙ not_broken j.gives place 12 (none_left (fault_if j.gives place 12) (findings_faults j fs) h) in cc

    mutual
      statement_named : (t : ℕ) (s : List Slot) (n : NextNumbers) (sc : Scope) (a : Statement) → findings_faults j (in_statement text sc a) ≡ [] →
          AllNamed text (in_statement text sc a) (stmt_calls (lower_statement text nothing t s n a).stmt)
      statement_named t s n sc (Nothing at) h = none_named []
      statement_named t s n sc (Group at body) h =
          moved_named (in_statements text (inner_scope sc) body) _ _ (sequence_calls (lower_list text nothing t s n body).list) (list_named t s n (inner_scope sc) body h)
      statement_named t s n sc (Declare at locals) h =
          moved_named (in_locals text sc locals) _ _ (sequence_calls (lower_locals text s n.slot locals)) (locals_named sc s n.slot locals h)
      statement_named t s n sc (Assign at target op value) h = target_named sc s target.name target.index op value h
      statement_named t s n sc (Invoke at name args) h =
          let own = use_at text sc (Runs (count_terms args)) name ∷ [] in
          let sets = set_params text s n.slot args in
          moved_named (own ++ in_terms text sc args) (stmts_calls sets) _ (sequence_calls (ends_with sets (sequence no_stmts)) ∙ ends_calls sets)
          (right_named own (in_terms text sc args) (stmts_calls sets) (sets_named sc s n.slot args (parts_right j own (in_terms text sc args) h)))
      statement_named t s n sc (If at test a b) h =
          let one = lower_statement text nothing t s n a in
          let two = lower_perhaps text nothing t s one.next b in
          let fa = in_statement text (inner_scope sc) a in
          let fb = in_perhaps text (inner_scope sc) b in
          let r = parts_right j (in_term text sc test) (fa ++ fb) h in
          moved_named (in_term text sc test ++ (fa ++ fb)) (wf.calls_of (lower_term text s test) ++ (stmt_calls one.stmt ++ stmt_calls two.stmt)) _
          (append_assoc (wf.calls_of (lower_term text s test)) (stmt_calls one.stmt) (stmt_calls two.stmt))
          (parts_named (in_term text sc test) (fa ++ fb) _ _ (term_named sc s test (parts_left j (in_term text sc test) (fa ++ fb) h))
          (parts_named fa fb _ _ (statement_named t s n (inner_scope sc) a (parts_left j fa fb r)) (perhaps_named t s one.next (inner_scope sc) b (parts_right j fa fb r))))
      statement_named t s n sc (While at test bound body) h =
          let head = Loop (While at test bound body) ∷ in_bound bound in
          let ft = in_term text sc test in
          let fb = in_statement text (inner_scope sc) body in
          let h1 = parts_right j (in_bound bound) (ft ++ fb) h in
          right_named (Loop (While at test bound body) ∷ []) (in_bound bound ++ (ft ++ fb)) _
          (right_named (in_bound bound) (ft ++ fb) _
          (parts_named ft fb _ _ (term_named sc s test (parts_left j ft fb h1)) (statement_named t s n (inner_scope sc) body (parts_right j ft fb h1))))
      statement_named t s n sc (For at start test step bound body) h =
          let sc1 = inner_scope sc in
          let sc2 = after_perhaps sc1 start in
          let sc3 = after_perhaps sc2 step in
          let s2 = scope_after_perhaps text s n.slot start in
          let i = lower_perhaps text nothing t s n start in
          let d = lower_perhaps text nothing t s2 i.next step in
          let s3 = scope_after_perhaps text s2 i.next.slot step in
          let last = lower_statement text nothing t s3 d.next body in
          let f1 = in_perhaps text sc1 start in
          let f2 = in_optional text sc2 test in
          let f3 = in_perhaps text sc2 step in
          let f4 = in_statement text (inner_scope sc3) body in
          let h1 = parts_right j (in_bound bound) (f1 ++ (f2 ++ (f3 ++ f4))) h in
          let h2 = parts_right j f1 (f2 ++ (f3 ++ f4)) h1 in
          let h3 = parts_right j f2 (f3 ++ f4) h2 in
          let test_calls = wf.calls_of (optional_test text s2 test) in
          right_named (Loop (For at start test step bound body) ∷ []) (in_bound bound ++ (f1 ++ (f2 ++ (f3 ++ f4)))) _
          (right_named (in_bound bound) (f1 ++ (f2 ++ (f3 ++ f4))) _
          (moved_named (f1 ++ (f2 ++ (f3 ++ f4))) (stmt_calls i.stmt ++ (test_calls ++ (stmt_calls last.stmt ++ stmt_calls d.stmt))) _
          (after_calls start t s n _ ∙ ap (λ l. stmt_calls i.stmt ++ (test_calls ++ l)) (step_calls step t s2 i.next last.stmt))
          (parts_named f1 (f2 ++ (f3 ++ f4)) _ _ (perhaps_named t s n sc1 start (parts_left j f1 (f2 ++ (f3 ++ f4)) h1))
          (parts_named f2 (f3 ++ f4) _ _ (optional_named sc2 s2 test (parts_left j f2 (f3 ++ f4) h2))
          (both_named (f3 ++ f4) (stmt_calls last.stmt) (stmt_calls d.stmt)
          (right_named f3 f4 _ (statement_named t s3 d.next (inner_scope sc3) body (parts_right j f3 f4 h3)))
          (left_named f3 f4 _ (perhaps_named t s2 i.next sc2 step (parts_left j f3 f4 h3))))))))
      statement_named t s n sc (Pause at) h = no_pause at [] h
      statement_named t s n sc (Par at bs) h = no_pause at (in_branches text sc bs) h
      statement_named t s n sc (Abort at weak immediate test body) h = no_pause at (in_term text sc test ++ in_statements text (inner_scope sc) body) h
      statement_named t s n sc (Return at value) h =
          right_named (Gives at ∷ []) (in_term text sc value) _ (term_named sc s value (parts_right j (Gives at ∷ []) (in_term text sc value) h))

      list_named : (t : ℕ) (s : List Slot) (n : NextNumbers) (sc : Scope) (a : Statements) → findings_faults j (in_statements text sc a) ≡ [] →
          AllNamed text (in_statements text sc a) (stmts_calls (lower_list text nothing t s n a).list)
      list_named t s n sc no_statements h = none_named []
      list_named t s n sc (more_statements a rest) h =
          let fa = in_statement text sc a in
          let fr = in_statements text (after sc a) rest in
          parts_named fa fr _ _ (statement_named t s n sc a (parts_left j fa fr h))
          (list_named t (scope_after text s n.slot a) (lower_statement text nothing t s n a).next (after sc a) rest (parts_right j fa fr h))

      perhaps_named : (t : ℕ) (s : List Slot) (n : NextNumbers) (sc : Scope) (a : Perhaps) → findings_faults j (in_perhaps text sc a) ≡ [] →
          AllNamed text (in_perhaps text sc a) (stmt_calls (lower_perhaps text nothing t s n a).stmt)
      perhaps_named t s n sc absent h = none_named []
      perhaps_named t s n sc (present a) h = statement_named t s n sc a h

-- ---- the rank of the kernel's functions

-- the names of functions
abbrev function_ids : Text → List ℕ
function_ids [] = []
function_ids (IsGlobal g ∷ rest) = function_ids rest
function_ids (IsFunction f ∷ rest) = f.name.id ∷ function_ids rest

id_stands : (xs : Text) (f : PlainFunction) → Member (IsFunction f) xs → is_in f.name.id (function_ids xs) ≡ true
id_stands [] f p = elim p [ ]
id_stands (x ∷ xs) f Rattle.forec_tree.specs.Faults.here = let e : (f.name.id == f.name.id) ≡ true = grind (arith, nat_tests) in ap (λ b. cond b true (is_in f.name.id (function_ids xs))) e
id_stands (IsGlobal g ∷ xs) f (Rattle.forec_tree.specs.Faults.later p) = id_stands xs f p
id_stands (IsFunction h ∷ xs) f (Rattle.forec_tree.specs.Faults.later p) =
    let r = id_stands xs f p in elim (h.name.id == f.name.id) as (λ b. cond b true (is_in f.name.id (function_ids xs)) ≡ true) [ true ↦ refl | false ↦ r ]

module _ (text : Text) (names : List (List ℕ)) (clean : Clean text names) where
  body_named : (f : PlainFunction) → Member (IsFunction f) text → f.gives ≡ true → AllNamed text (in_function text f) (stmt_calls (sequence (kernels.lowered_function_body text names f).list))
  body_named f m g =
      let j : Judging = record { names = names; gives = true } in
      let c = function_of text names clean f m in
      let params = in_params text no_scope f.params in
      let inside = with_params no_scope f.params in
      let body = in_statements text inside f.body in
      let rules : findings_faults j (params ++ body) ≡ [] = subst (λ b. findings_faults (record { names = names; gives = b }) (in_function text f) ≡ []) g c.findings in
      right_named text params body _
      (moved_named text body _ _ (sequence_calls text j refl (kernels.lowered_function_body text names f).list)
      (list_named text j refl 0 (params_at 0 f.params) (record { slot = length f.params; thread = 1; par = 0 }) inside f.body (parts_right j params body rules)))

  abbrev number_rank : ℕ → ℕ
  number_rank n = rank (functions_called text) clean.free (function_ids text) (int_function text names n).name.id

  number_falls : (f g : ℕ) → f < length (kernel_of text names).functions → IsTrue (contains g (stmt_calls (function_body (kernel_of text names) f))) → number_rank g < number_rank f
  number_falls f g l h =
      let low = function_low text names f l in
      let i = int_at text names text f low in
      let own = int_function text names f in
      let n = body_named own i.member i.gives g (sym (ap (λ x. contains g (stmt_calls x)) (body_of_function text names f low)) ∙ h) in
      let calls : functions_called text own.name.id ≡ called_in (in_function text own) = ap (λ x. Rattle.forec_tree.specs.Faults.item_calls text x) (own_item text names clean (IsFunction own) i.member) in
      let to = first_of n.id (IsFunction n.function) text n.found in
      let same : int_function text names g ≡ n.function =
      ap (int_function text names) n.is ∙ function_at text names n.id n.function text (blank_function text names) to n.gives in
      let id : (int_function text names g).name.id ≡ n.id = ap (λ (x : PlainFunction). x.name.id) same ∙ first_id n.id (IsFunction n.function) text to in
      subst (λ m. rank (functions_called text) clean.free (function_ids text) m < number_rank f) (sym id)
      (rank_along (functions_called text) clean.free (function_ids text) own.name.id n.id (id_stands text own i.member) (ap (is_in n.id) calls ∙ n.called))

  pub ranked : Ranked (kernel_of text names)
  ranked = record { rank = number_rank; falls = number_falls }
