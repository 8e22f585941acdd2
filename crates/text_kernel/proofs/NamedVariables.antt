-- A variable stands in lowered text where the rules say that the text names it.
use Rattle.std.proofs.Common.{ℕ, suc, ◌+◌, ◌<◌, ◌≡◌, ◌∙◌, sym, ap, refl, subst, Bool, true, false, cond, not, ◌==◌, ◌||◌, Option, Some, None, List, [], ◌∷◌, ◌++◌, append-nil, append_assoc, map, arith}
use Rattle.std.proofs.Math.Bool.{or_comm, or_self_left}
use Rattle.std.specs.Prelude.{IsTrue}
use Rattle.forec_base.specs.declared.Place.{Place}
use Rattle.forec_tree.specs.declared.tree.Name.{Name}
use Rattle.forec_tree.specs.declared.tree.Number.{Number}
use Rattle.forec_tree.specs.declared.tree.OpAt.{OpAt}
use Rattle.forec_tree.specs.declared.uses.Seen.{Seen}
use Rattle.forec_tree.specs.declared.uses.Meaning.{Meaning}
use Rattle.forec_tree.specs.declared.uses.Meaning.TheVariants as means
use Rattle.forec_tree.specs.declared.uses.How.{How}
use Rattle.forec_tree.specs.declared.uses.How.TheVariants.{Reads, Indexes, Writes, WritesAt, Computes}
use Rattle.forec_tree.specs.Terms.{Term, Num, Read, Element, Un, Bin, And, Or, Choose, Call, Terms, no_terms, more_terms, count_terms, Declared, Text, PlainItem, PlainGlobal, IsGlobal, IsFunction}
use Rattle.forec_tree.specs.Scopes as tree
use Rattle.forec_tree.specs.Scopes.{Scope, with_name, is_among, find_item, find_last, is_array, stated_length, local_meaning, item_meaning, meaning}
use Rattle.forec_tree.specs.Variables.{elements, width}
use Rattle.forec_tree.specs.Findings.{Finding, Use, Declares, Bound, Loop, Synchronous, Gives, Opens, Closes, in_term, in_terms, in_optional, in_target, in_local, in_locals}
use Rattle.forec_tree.specs.Rules.{Judging, fault_if, is_constant, fits_variable, use_faults, declared_faults, findings_faults}
use Rattle.forec_tree.specs.Faults.{is_in}
use Rattle.forec_tree.specs.ThreadTree.{globals_in}
use Rattle.forec_kernel.specs.WellFormed.{count_up}
use Rattle.forec_kernel.specs.Terms as kernel
use Rattle.forec_kernel.specs.Terms.{Expr, Stmt, Stmts, no_stmts, more_stmts}
use Rattle.text_kernel.specs.declared.names.Slot.{Slot}
use Rattle.text_kernel.specs.declared.names.Stands.TheVariants as st
use Rattle.text_kernel.specs.Bindings as binds
use Rattle.text_kernel.specs.Bindings.{number_among, variable_number, number_of, slots_of, local_slot, find_slot, slot_stands, item_stands, constant_stands, variable_stands, first_value}
use Rattle.text_kernel.specs.Lowering.{stands, lower_term, lower_terms, read_as, element_as, assign_to, assign_at, lower_target, sequence, ends_with, array_values, lower_local, lower_locals, set_params, optional_test, vars_in, vars_all, vars_of, vars_list}
use Rattle.text_kernel.proofs.OneValue.{one_value, OneValues}
use Rattle.text_kernel.proofs.Fine.{none_left, none_right, not_broken, parts_left, parts_right, GoodUse, good_use, seen_of, seen_option, has_size, found}
use Rattle.text_kernel.proofs.Locals.{seen_size, seen_more}
use Rattle.text_kernel.proofs.SameGlobal.{constant_other, row_same}

-- ---- lists

pub in_append : (x : ℕ) (a b : List ℕ) → is_in x (a ++ b) ≡ (is_in x a || is_in x b)
in_append x [] b = refl
in_append x (y ∷ a) b = pick (y == x) (in_append x a b)
  where
    pick : (t : Bool) → is_in x (a ++ b) ≡ (is_in x a || is_in x b) → cond t true (is_in x (a ++ b)) ≡ (cond t true (is_in x a) || is_in x b)
    pick true e = refl
    pick false e = e

twice_in : (x : ℕ) (a b : List ℕ) → is_in x (a ++ (a ++ b)) ≡ is_in x (a ++ b)
twice_in x a b = in_append x a (a ++ b) ∙ (ap (λ t. is_in x a || t) (in_append x a b) ∙ (or_self_left (is_in x a) (is_in x b) ∙ sym (in_append x a b)))

pub swapped_in : (x : ℕ) (a b : List ℕ) → is_in x (a ++ (b ++ [])) ≡ is_in x (b ++ a)
swapped_in x a b =
    ap (λ l. is_in x (a ++ l)) (append-nil b) ∙ (in_append x a b ∙ (or_comm (is_in x a) (is_in x b) ∙ sym (in_append x b a)))

pub globals_append : (xs ys : List Finding) → globals_in (xs ++ ys) ≡ globals_in xs ++ globals_in ys
globals_append [] ys = refl
globals_append (Use how name means.Unknown ∷ xs) ys = globals_append xs ys
globals_append (Use how name (means.Local array) ∷ xs) ys = globals_append xs ys
globals_append (Use how name (means.Global kind array) ∷ xs) ys = ap (λ l. name.id ∷ l) (globals_append xs ys)
globals_append (Use how name (means.Function gives params) ∷ xs) ys = globals_append xs ys
globals_append (Declares name again size values ∷ xs) ys = globals_append xs ys
globals_append (Bound n ∷ xs) ys = globals_append xs ys
globals_append (Loop x ∷ xs) ys = globals_append xs ys
globals_append (Synchronous place ∷ xs) ys = globals_append xs ys
globals_append (Gives place ∷ xs) ys = globals_append xs ys
globals_append (Opens ∷ xs) ys = globals_append xs ys
globals_append (Closes ∷ xs) ys = globals_append xs ys

pub sequence_vars : (list : Stmts) → vars_of (sequence list) ≡ vars_list list
sequence_vars no_stmts = refl
sequence_vars (more_stmts a no_stmts) = sym (append-nil (vars_of a))
sequence_vars (more_stmts a (more_stmts b rest)) = refl

pub ends_vars : (list : Stmts) (a : Stmt) → vars_list (ends_with list a) ≡ vars_list list ++ vars_of a
ends_vars no_stmts a = append-nil (vars_of a)
ends_vars (more_stmts b rest) a = ap (λ l. vars_of b ++ l) (ends_vars rest a) ∙ sym (append_assoc (vars_of b) (vars_list rest) (vars_of a))

-- ---- the scopes name the same

pub record Agree (sc : Scope) (s : List Slot) : Type 0 where
  pub same : map seen_of s ≡ sc.outer ++ sc.here

pub agree_more : (sc : Scope) (s : List Slot) (x : Slot) (array : Bool) → Agree sc s → has_size x.size ≡ array → is_among x.id sc.here ≡ false →
    Agree (with_name sc x.id array) (s ++ x ∷ [])
agree_more sc s x array m a e = record { same = seen_more sc s x array a m.same e }

-- ---- tests

said : (b : Bool) → cond b true false ≡ b
said true = refl
said false = refl

or_is : (a b : Bool) → (a || b) ≡ cond a true b
or_is true b = refl
or_is false b = refl

thrice : (a b c : Bool) → (a || (b || ((a || b) || c))) ≡ (a || (b || c))
thrice true b c = refl
thrice false true c = refl
thrice false false c = refl

-- ---- one variable

-- the element `nth` of a global, or the global itself
module _ (text : Text) (j : Judging) (g : PlainGlobal) (is_item : find_item g.name.id text ≡ Some (IsGlobal g)) (changes : is_constant g.kind ≡ false) (nth : ℕ) (is_one : nth < width g) where
  abbrev pub i : ℕ
  i = g.name.id

  -- its number
  abbrev pub v : ℕ
  v = variable_number g.name.id text + nth

  abbrev pub Same : List ℕ → List ℕ → Type 0
  Same vs gs = is_in v vs ≡ is_in i gs

  pub same_append : (a b c d : List ℕ) → Same a c → Same b d → Same (a ++ b) (c ++ d)
  same_append a b c d h k = in_append v a b ∙ (ap (λ t. t || is_in v b) h ∙ (ap (λ t. is_in i c || t) k ∙ sym (in_append i c d)))

  pub same_found : (a b : List ℕ) (xs ys : List Finding) → Same a (globals_in xs) → Same b (globals_in ys) → Same (a ++ b) (globals_in (xs ++ ys))
  same_found a b xs ys h k = subst (λ l. Same (a ++ b) l) (sym (globals_append xs ys)) (same_append a b (globals_in xs) (globals_in ys) h k)

  -- such a row in front of the rest of a use
  row_then : (row vs gs : List ℕ) (id : ℕ) → is_in v row ≡ (id == i) → Same vs gs → Same (row ++ vs) (id ∷ gs)
  row_then row vs gs id e h = in_append v row vs ∙ (ap (λ b. b || is_in v vs) e ∙ (ap (λ b. (id == i) || b) h ∙ or_is (id == i) (is_in i gs)))

  -- a name that isn't this variable
  abbrev NotThis : Name → Meaning → Type 0
  NotThis name means.Unknown = Unit {0}
  NotThis name (means.Local array) = Unit {0}
  NotThis name (means.Global kind array) = (name.id == i) ≡ false
  NotThis name (means.Function gives params) = Unit {0}

  skip : (how : How) (name : Name) (m : Meaning) (fs : List Finding) → NotThis name m → is_in i (globals_in (Use how name m ∷ fs)) ≡ is_in i (globals_in fs)
  skip how name means.Unknown fs h = refl
  skip how name (means.Local array) fs h = refl
  skip how name (means.Global kind array) fs h = ap (λ b. cond b true (is_in i (globals_in fs))) h
  skip how name (means.Function gives params) fs h = refl

  other : (how : How) (name : Name) (o : Option Seen) (it : Option PlainItem) → ((array : Bool) → fits_variable how array ≡ false) → find_item name.id text ≡ it →
      GoodUse j.gives how (local_meaning o (item_meaning it)) → NotThis name (local_meaning o (item_meaning it))
  other how name (Some x) it none e u = tt
  other how name None None none e u = tt
  other how name None (Some (IsFunction f)) none e u = tt
  other how name None (Some (IsGlobal h)) none e u = let bad : false ≡ true = sym (none (is_array (stated_length h))) ∙ u.fits in cc

  -- a use that no variable fits
  pub skipped : (how : How) (name : Name) (sc : Scope) (fs : List Finding) → ((array : Bool) → fits_variable how array ≡ false) →
      use_faults j how name (meaning text sc name.id) ≡ [] → is_in i (globals_in (Use how name (meaning text sc name.id) ∷ fs)) ≡ is_in i (globals_in fs)
  skipped how name sc fs none h =
      skip how name (meaning text sc name.id) fs
      (other how name (find_last name.id None (sc.outer ++ sc.here)) (find_item name.id text) none refl (good_use j how name (meaning text sc name.id) h))

  means_same : (sc : Scope) (s : List Slot) (id : ℕ) → Agree sc s → meaning text sc id ≡ local_meaning (seen_option (find_slot id None s)) (item_meaning (find_item id text))
  means_same sc s id m = ap (λ o. local_meaning o (item_meaning (find_item id text))) (ap (find_last id None) (sym m.same) ∙ found id None s)

  -- ---- terms

  slot_read : (slot : ℕ) (o : Option ℕ) → vars_in (read_as (elim o [ None ↦ st.AtSlot slot | Some n ↦ st.AtSlots slot n ])) ≡ []
  slot_read slot None = refl
  slot_read slot (Some n) = refl

  constant_read : (h : PlainGlobal) (o : Option Number) →
      vars_in (read_as (elim o [ None ↦ st.AsNumber (first_value h.values) | Some n ↦ st.AsTable (number_among binds.is_table h.name.id text) ])) ≡ []
  constant_read h None = refl
  constant_read h (Some n) = refl

  variable_read : (first : ℕ) (o : Option Number) → not (is_array o) ≡ true →
      vars_in (read_as (elim o [ None ↦ st.AsVariable first | Some n ↦ st.AsVariables first (elements n) ])) ≡ count_up first (elim o [ None ↦ 1 | Some n ↦ elements n ])
  variable_read first None e = refl
  variable_read first (Some n) e = cc

  global_read : (name : Name) (h : PlainGlobal) (b : Bool) → find_item name.id text ≡ Some (IsGlobal h) → is_constant h.kind ≡ b → not (is_array (stated_length h)) ≡ true →
      Same (vars_in (read_as (cond b (constant_stands text h) (variable_stands text h)))) (name.id ∷ [])
  global_read name h true e c a = ap (is_in v) (constant_read h h.length) ∙ sym (ap (λ b. cond b true false) (constant_other text g is_item changes name.id h e c))
  global_read name h false e c a = ap (is_in v) (variable_read (variable_number h.name.id text) (stated_length h) a) ∙ (row_same text g is_item changes nth is_one name.id h e c ∙ sym (said (name.id == i)))

  name_read : (name : Name) (o : Option Slot) (it : Option PlainItem) → find_item name.id text ≡ it → GoodUse j.gives Reads (local_meaning (seen_option o) (item_meaning it)) →
      Same (vars_in (read_as (elim o [ Some s ↦ slot_stands s | None ↦ item_stands text it ]))) (globals_in (Use Reads name (local_meaning (seen_option o) (item_meaning it)) ∷ []))
  name_read name (Some x) it e u = ap (is_in v) (slot_read x.slot x.size)
  name_read name None None e u = refl
  name_read name None (Some (IsFunction f)) e u = refl
  name_read name None (Some (IsGlobal h)) e u = global_read name h (is_constant h.kind) e refl u.fits

  slot_element : (slot : ℕ) (o : Option ℕ) (e : Expr) (place : Place) → vars_in (element_as (elim o [ None ↦ st.AtSlot slot | Some n ↦ st.AtSlots slot n ]) e place) ≡ vars_in e
  slot_element slot None e place = refl
  slot_element slot (Some n) e place = refl

  constant_element : (h : PlainGlobal) (o : Option Number) (e : Expr) (place : Place) →
      vars_in (element_as (elim o [ None ↦ st.AsNumber (first_value h.values) | Some n ↦ st.AsTable (number_among binds.is_table h.name.id text) ]) e place) ≡ vars_in e
  constant_element h None e place = refl
  constant_element h (Some n) e place = refl

  variable_element : (first : ℕ) (o : Option Number) (e : Expr) (place : Place) → is_array o ≡ true →
      vars_in (element_as (elim o [ None ↦ st.AsVariable first | Some n ↦ st.AsVariables first (elements n) ]) e place) ≡ count_up first (elim o [ None ↦ 1 | Some n ↦ elements n ]) ++ vars_in e
  variable_element first None e place h = cc
  variable_element first (Some n) e place h = refl

  global_element : (name : Name) (h : PlainGlobal) (b : Bool) (e : Expr) (place : Place) (gs : List ℕ) → find_item name.id text ≡ Some (IsGlobal h) → is_constant h.kind ≡ b →
      is_array (stated_length h) ≡ true → Same (vars_in e) gs → Same (vars_in (element_as (cond b (constant_stands text h) (variable_stands text h)) e place)) (name.id ∷ gs)
  global_element name h true e place gs f c a k =
      ap (is_in v) (constant_element h h.length e place) ∙ (k ∙ sym (ap (λ b. cond b true (is_in i gs)) (constant_other text g is_item changes name.id h f c)))
  global_element name h false e place gs f c a k =
      ap (is_in v) (variable_element (variable_number h.name.id text) (stated_length h) e place a)
      ∙ row_then (count_up (variable_number h.name.id text) (width h)) (vars_in e) gs name.id (row_same text g is_item changes nth is_one name.id h f c) k

  name_element : (name : Name) (o : Option Slot) (it : Option PlainItem) (e : Expr) (place : Place) (fs : List Finding) → find_item name.id text ≡ it →
      GoodUse j.gives Indexes (local_meaning (seen_option o) (item_meaning it)) → Same (vars_in e) (globals_in fs) →
      Same (vars_in (element_as (elim o [ Some s ↦ slot_stands s | None ↦ item_stands text it ]) e place)) (globals_in (Use Indexes name (local_meaning (seen_option o) (item_meaning it)) ∷ fs))
  name_element name (Some x) it e place fs f u k = ap (is_in v) (slot_element x.slot x.size e place) ∙ k
  name_element name None None e place fs f u k = k
  name_element name None (Some (IsFunction h)) e place fs f u k = k
  name_element name None (Some (IsGlobal h)) e place fs f u k = global_element name h (is_constant h.kind) e place (globals_in fs) f refl u.fits k

  both_from : (a b : List ℕ) (xs ys : List Finding) → findings_faults j (xs ++ ys) ≡ [] → (findings_faults j xs ≡ [] → Same a (globals_in xs)) → (findings_faults j ys ≡ [] → Same b (globals_in ys)) →
      Same (a ++ b) (globals_in (xs ++ ys))
  both_from a b xs ys h f k = same_found a b xs ys (f (parts_left j xs ys h)) (k (parts_right j xs ys h))

  mutual
    pub term_names : (sc : Scope) (s : List Slot) → Agree sc s → (e : Term) → findings_faults j (in_term text sc e) ≡ [] →
        Same (vars_in (lower_term text s e)) (globals_in (in_term text sc e))
    term_names sc s m (Num at n) h = refl
    term_names sc s m (Read at name) h =
        let own = use_faults j Reads name (meaning text sc name.id) in
        let u = subst (GoodUse j.gives Reads) (means_same sc s name.id m) (good_use j Reads name (meaning text sc name.id) (none_left own [] h)) in
        subst (λ x. Same (vars_in (read_as (stands text s name.id))) (globals_in (Use Reads name x ∷ []))) (sym (means_same sc s name.id m))
        (name_read name (find_slot name.id None s) (find_item name.id text) refl u)
    term_names sc s m (Element at name k) h =
        let own = use_faults j Indexes name (meaning text sc name.id) in
        let rest = findings_faults j (in_term text sc k) in
        let u = subst (GoodUse j.gives Indexes) (means_same sc s name.id m) (good_use j Indexes name (meaning text sc name.id) (none_left own rest h)) in
        subst (λ x. Same (vars_in (element_as (stands text s name.id) (lower_term text s k) name.place)) (globals_in (Use Indexes name x ∷ in_term text sc k))) (sym (means_same sc s name.id m))
        (name_element name (find_slot name.id None s) (find_item name.id text) (lower_term text s k) name.place (in_term text sc k) refl u (term_names sc s m k (none_right own rest h)))
    term_names sc s m (Un at op a) h = term_names sc s m a h
    term_names sc s m (Bin at op a b) h = both_from (vars_in (lower_term text s a)) (vars_in (lower_term text s b)) (in_term text sc a) (in_term text sc b) h (λ d. term_names sc s m a d) (λ d. term_names sc s m b d)
    term_names sc s m (And at a b) h = both_from (vars_in (lower_term text s a)) (vars_in (lower_term text s b)) (in_term text sc a) (in_term text sc b) h (λ d. term_names sc s m a d) (λ d. term_names sc s m b d)
    term_names sc s m (Or at a b) h = both_from (vars_in (lower_term text s a)) (vars_in (lower_term text s b)) (in_term text sc a) (in_term text sc b) h (λ d. term_names sc s m a d) (λ d. term_names sc s m b d)
    term_names sc s m (Choose at t a b) h =
        let sides = in_term text sc a ++ in_term text sc b in
        same_found (vars_in (lower_term text s t)) (vars_in (lower_term text s a) ++ vars_in (lower_term text s b)) (in_term text sc t) sides
        (term_names sc s m t (parts_left j (in_term text sc t) sides h))
        (both_from (vars_in (lower_term text s a)) (vars_in (lower_term text s b)) (in_term text sc a) (in_term text sc b) (parts_right j (in_term text sc t) sides h) (λ d. term_names sc s m a d)
        (λ d. term_names sc s m b d))
    term_names sc s m (Call at name args) h =
        let how = Computes (count_terms args) in
        let own = use_faults j how name (meaning text sc name.id) in
        terms_names sc s m args (none_right own (findings_faults j (in_terms text sc args)) h)
        ∙ sym (skipped how name sc (in_terms text sc args) (λ array. refl) (none_left own (findings_faults j (in_terms text sc args)) h))

    pub terms_names : (sc : Scope) (s : List Slot) → Agree sc s → (es : Terms) → findings_faults j (in_terms text sc es) ≡ [] →
        Same (vars_all (lower_terms text s es)) (globals_in (in_terms text sc es))
    terms_names sc s m no_terms h = refl
    terms_names sc s m (more_terms e rest) h =
        same_found (vars_in (lower_term text s e)) (vars_all (lower_terms text s rest)) (in_term text sc e) (in_terms text sc rest)
        (term_names sc s m e (parts_left j (in_term text sc e) (in_terms text sc rest) h)) (terms_names sc s m rest (parts_right j (in_term text sc e) (in_terms text sc rest) h))

  both_names : (sc : Scope) (s : List Slot) → Agree sc s → (a b : Term) → findings_faults j (in_term text sc a ++ in_term text sc b) ≡ [] →
      Same (vars_in (lower_term text s a) ++ vars_in (lower_term text s b)) (globals_in (in_term text sc a ++ in_term text sc b))
  both_names sc s m a b h =
      both_from (vars_in (lower_term text s a)) (vars_in (lower_term text s b)) (in_term text sc a) (in_term text sc b) h (λ d. term_names sc s m a d) (λ d. term_names sc s m b d)

  pub optional_names : (sc : Scope) (s : List Slot) → Agree sc s → (e : Option Term) → findings_faults j (in_optional text sc e) ≡ [] →
      Same (vars_in (optional_test text s e)) (globals_in (in_optional text sc e))
  optional_names sc s m None h = refl
  optional_names sc s m (Some e) h = term_names sc s m e h

  -- ---- assignments

  slot_write : (slot : ℕ) (o : Option ℕ) (op : Option OpAt) (value : Expr) → vars_of (assign_to (elim o [ None ↦ st.AtSlot slot | Some n ↦ st.AtSlots slot n ]) op value) ≡ vars_in value
  slot_write slot None None value = refl
  slot_write slot None (Some op) value = refl
  slot_write slot (Some n) None value = refl
  slot_write slot (Some n) (Some op) value = refl

  nothing_write : (op : Option OpAt) (value : Expr) → vars_of (assign_to st.AsNothing op value) ≡ vars_in value
  nothing_write None value = refl
  nothing_write (Some op) value = refl

  once : (a b x y : Bool) → a ≡ b → x ≡ y → cond a true x ≡ cond b true y
  once a b x y e h = cc

  doubled : (a x : Bool) → cond a true (cond a true x) ≡ cond a true x
  doubled true x = refl
  doubled false x = refl

  variable_write : (n id : ℕ) (op : Option OpAt) (value : Expr) (gs : List ℕ) → (n == v) ≡ (id == i) → Same (vars_in value) gs →
      Same (vars_of (assign_to (st.AsVariable n) op value)) (id ∷ gs)
  variable_write n id None value gs e h = once (n == v) (id == i) (is_in v (vars_in value)) (is_in i gs) e h
  variable_write n id (Some op) value gs e h =
      doubled (n == v) (is_in v (vars_in value)) ∙ once (n == v) (id == i) (is_in v (vars_in value)) (is_in i gs) e h

  variable_to : (first id : ℕ) (o : Option Number) (op : Option OpAt) (value : Expr) (gs : List ℕ) → not (is_array o) ≡ true →
      is_in v (count_up first (elim o [ None ↦ 1 | Some n ↦ elements n ])) ≡ (id == i) → Same (vars_in value) gs →
      Same (vars_of (assign_to (elim o [ None ↦ st.AsVariable first | Some n ↦ st.AsVariables first (elements n) ]) op value)) (id ∷ gs)
  variable_to first id None op value gs a e h = variable_write first id op value gs (sym (said (first == v)) ∙ e) h
  variable_to first id (Some n) op value gs a e h = cc

  global_write : (name : Name) (h : PlainGlobal) (b : Bool) (op : Option OpAt) (value : Expr) (gs : List ℕ) → find_item name.id text ≡ Some (IsGlobal h) → is_constant h.kind ≡ b →
      is_constant h.kind ≡ false → not (is_array (stated_length h)) ≡ true → Same (vars_in value) gs →
      Same (vars_of (assign_to (cond b (constant_stands text h) (variable_stands text h)) op value)) (name.id ∷ gs)
  global_write name h true op value gs e c d a k = cc
  global_write name h false op value gs e c d a k = variable_to (variable_number h.name.id text) name.id (stated_length h) op value gs a (row_same text g is_item changes nth is_one name.id h e c) k

  name_write : (name : Name) (o : Option Slot) (it : Option PlainItem) (op : Option OpAt) (value : Expr) (fs : List Finding) → find_item name.id text ≡ it →
      GoodUse j.gives Writes (local_meaning (seen_option o) (item_meaning it)) → Same (vars_in value) (globals_in fs) →
      Same (vars_of (assign_to (elim o [ Some s ↦ slot_stands s | None ↦ item_stands text it ]) op value)) (globals_in (Use Writes name (local_meaning (seen_option o) (item_meaning it)) ∷ fs))
  name_write name (Some x) it op value fs e u k = ap (is_in v) (slot_write x.slot x.size op value) ∙ k
  name_write name None None op value fs e u k = ap (is_in v) (nothing_write op value) ∙ k
  name_write name None (Some (IsFunction f)) op value fs e u k = ap (is_in v) (nothing_write op value) ∙ k
  name_write name None (Some (IsGlobal h)) op value fs e u k = global_write name h (is_constant h.kind) op value (globals_in fs) e refl (u.written refl) u.fits k

  slot_to_at : (slot : ℕ) (o : Option ℕ) (op : Option OpAt) (k value : Expr) (place : Place) →
      is_in v (vars_of (assign_at (elim o [ None ↦ st.AtSlot slot | Some n ↦ st.AtSlots slot n ]) op k value place)) ≡ is_in v (vars_in k ++ vars_in value)
  slot_to_at slot None None k value place = refl
  slot_to_at slot None (Some op) k value place = twice_in v (vars_in k) (vars_in value)
  slot_to_at slot (Some n) None k value place = refl
  slot_to_at slot (Some n) (Some op) k value place = twice_in v (vars_in k) (vars_in value)

  nothing_to_at : (op : Option OpAt) (k value : Expr) (place : Place) → is_in v (vars_of (assign_at st.AsNothing op k value place)) ≡ is_in v (vars_in k ++ vars_in value)
  nothing_to_at None k value place = refl
  nothing_to_at (Some op) k value place = twice_in v (vars_in k) (vars_in value)

  -- the element is read where it is changed by an operator
  read_too : (a b c : List ℕ) → is_in v (a ++ (b ++ ((a ++ b) ++ c))) ≡ is_in v (a ++ (b ++ c))
  read_too a b c =
      in_append v a (b ++ ((a ++ b) ++ c))
      ∙ (ap (λ t. is_in v a || t) (in_append v b ((a ++ b) ++ c))
      ∙ (ap (λ t. is_in v a || (is_in v b || t)) (in_append v (a ++ b) c)
      ∙ (ap (λ t. is_in v a || (is_in v b || (t || is_in v c))) (in_append v a b)
      ∙ (thrice (is_in v a) (is_in v b) (is_in v c) ∙ (ap (λ t. is_in v a || t) (sym (in_append v b c)) ∙ sym (in_append v a (b ++ c)))))))

  variable_to_at : (first id : ℕ) (o : Option Number) (op : Option OpAt) (k value : Expr) (place : Place) (gs : List ℕ) → is_array o ≡ true →
      is_in v (count_up first (elim o [ None ↦ 1 | Some n ↦ elements n ])) ≡ (id == i) → Same (vars_in k ++ vars_in value) gs →
      Same (vars_of (assign_at (elim o [ None ↦ st.AsVariable first | Some n ↦ st.AsVariables first (elements n) ]) op k value place)) (id ∷ gs)
  variable_to_at first id None op k value place gs a e h = cc
  variable_to_at first id (Some n) None k value place gs a e h = row_then (count_up first (elements n)) (vars_in k ++ vars_in value) gs id e h
  variable_to_at first id (Some n) (Some op) k value place gs a e h =
      read_too (count_up first (elements n)) (vars_in k) (vars_in value) ∙ row_then (count_up first (elements n)) (vars_in k ++ vars_in value) gs id e h

  global_to_at : (name : Name) (h : PlainGlobal) (b : Bool) (op : Option OpAt) (k value : Expr) (place : Place) (gs : List ℕ) → find_item name.id text ≡ Some (IsGlobal h) → is_constant h.kind ≡ b →
      is_constant h.kind ≡ false → is_array (stated_length h) ≡ true → Same (vars_in k ++ vars_in value) gs →
      Same (vars_of (assign_at (cond b (constant_stands text h) (variable_stands text h)) op k value place)) (name.id ∷ gs)
  global_to_at name h true op k value place gs e c d a s = cc
  global_to_at name h false op k value place gs e c d a s =
      variable_to_at (variable_number h.name.id text) name.id (stated_length h) op k value place gs a (row_same text g is_item changes nth is_one name.id h e c) s

  name_to_at : (name : Name) (o : Option Slot) (it : Option PlainItem) (op : Option OpAt) (k value : Expr) (place : Place) (fs : List Finding) → find_item name.id text ≡ it →
      GoodUse j.gives WritesAt (local_meaning (seen_option o) (item_meaning it)) → Same (vars_in k ++ vars_in value) (globals_in fs) →
      Same (vars_of (assign_at (elim o [ Some s ↦ slot_stands s | None ↦ item_stands text it ]) op k value place))
      (globals_in (Use WritesAt name (local_meaning (seen_option o) (item_meaning it)) ∷ fs))
  name_to_at name (Some x) it op k value place fs e u s = slot_to_at x.slot x.size op k value place ∙ s
  name_to_at name None None op k value place fs e u s = nothing_to_at op k value place ∙ s
  name_to_at name None (Some (IsFunction f)) op k value place fs e u s = nothing_to_at op k value place ∙ s
  name_to_at name None (Some (IsGlobal h)) op k value place fs e u s = global_to_at name h (is_constant h.kind) op k value place (globals_in fs) e refl (u.written refl) u.fits s

  pub target_names : (sc : Scope) (s : List Slot) → Agree sc s → (name : Name) (index : Option Term) (op : Option OpAt) (value : Term) →
      findings_faults j (in_target text sc (record { name = name; index = index }) ++ in_term text sc value) ≡ [] →
      Same (vars_of (lower_target text s (record { name = name; index = index }) op (lower_term text s value)))
      (globals_in (in_target text sc (record { name = name; index = index }) ++ in_term text sc value))
  target_names sc s m name None op value h =
      let own = use_faults j Writes name (meaning text sc name.id) in
      let rest = findings_faults j (in_term text sc value) in
      let u = subst (GoodUse j.gives Writes) (means_same sc s name.id m) (good_use j Writes name (meaning text sc name.id) (none_left own rest h)) in
      subst (λ x. Same (vars_of (assign_to (stands text s name.id) op (lower_term text s value))) (globals_in (Use Writes name x ∷ in_term text sc value))) (sym (means_same sc s name.id m))
      (name_write name (find_slot name.id None s) (find_item name.id text) op (lower_term text s value) (in_term text sc value) refl u (term_names sc s m value (none_right own rest h)))
  target_names sc s m name (Some k) op value h =
      let own = use_faults j WritesAt name (meaning text sc name.id) in
      let fs = in_term text sc k ++ in_term text sc value in
      let rest = findings_faults j fs in
      let u = subst (GoodUse j.gives WritesAt) (means_same sc s name.id m) (good_use j WritesAt name (meaning text sc name.id) (none_left own rest h)) in
      subst (λ x. Same (vars_of (assign_at (stands text s name.id) op (lower_term text s k) (lower_term text s value) name.place)) (globals_in (Use WritesAt name x ∷ fs))) (sym (means_same sc s name.id m))
      (name_to_at name (find_slot name.id None s) (find_item name.id text) op (lower_term text s k) (lower_term text s value) name.place fs refl u
      (both_names sc s m k value (none_right own rest h)))

  -- ---- declarations, parameters

  values_names : (sc : Scope) (s : List Slot) → Agree sc s → (slot size k : ℕ) (es : Terms) (place : Place) → findings_faults j (in_terms text sc es) ≡ [] →
      Same (vars_list (array_values text s slot size k es place)) (globals_in (in_terms text sc es))
  values_names sc s m slot size k no_terms place h = refl
  values_names sc s m slot size k (more_terms e rest) place h =
      same_found (vars_in (lower_term text s e)) (vars_list (array_values text s slot size (suc k) rest place)) (in_term text sc e) (in_terms text sc rest)
      (term_names sc s m e (parts_left j (in_term text sc e) (in_terms text sc rest) h))
      (values_names sc s m slot size (suc k) rest place (parts_right j (in_term text sc e) (in_terms text sc rest) h))

  pub sets_names : (sc : Scope) (s : List Slot) → Agree sc s → (slot : ℕ) (es : Terms) → findings_faults j (in_terms text sc es) ≡ [] →
      Same (vars_list (set_params text s slot es)) (globals_in (in_terms text sc es))
  sets_names sc s m slot no_terms h = refl
  sets_names sc s m slot (more_terms e rest) h =
      same_found (vars_in (lower_term text s e)) (vars_list (set_params text s (suc slot) rest)) (in_term text sc e) (in_terms text sc rest)
      (term_names sc s m e (parts_left j (in_term text sc e) (in_terms text sc rest) h)) (sets_names sc s m (suc slot) rest (parts_right j (in_term text sc e) (in_terms text sc rest) h))

  local_names : (sc : Scope) (s : List Slot) → Agree sc s → (slot : ℕ) (name : Name) (size : Option Number) (es : Terms) → IsTrue (one_value (record { name = name; length = size; values = es })) →
      findings_faults j (in_terms text sc es) ≡ [] → Same (vars_of (lower_local text s slot (record { name = name; length = size; values = es }))) (globals_in (in_terms text sc es))
  local_names sc s m slot name None no_terms one h = refl
  local_names sc s m slot name None (more_terms e no_terms) one h =
      term_names sc s m e (parts_left j (in_term text sc e) [] h) ∙ ap (λ l. is_in i (globals_in l)) (sym (append-nil (in_term text sc e)))
  local_names sc s m slot name None (more_terms e (more_terms f rest)) one h = cc
  local_names sc s m slot name (Some n) es one h =
      ap (is_in v) (sequence_vars (more_stmts (kernel.Clear slot (number_of n)) (array_values text s slot (number_of n) 0 es name.place)))
      ∙ values_names sc s m slot (number_of n) 0 es name.place h

  pub locals_names : (sc : Scope) (s : List Slot) → Agree sc s → (slot : ℕ) (ls : List Declared) → OneValues ls → findings_faults j (in_locals text sc ls) ≡ [] →
      Same (vars_list (lower_locals text s slot ls)) (globals_in (in_locals text sc ls)) × Agree (tree.with_locals sc ls) (binds.with_local_slots s slot ls)
  locals_names sc s m slot [] one h = (refl, m)
  locals_names sc s m slot (d ∷ rest) one h =
      let own = declared_faults j.names d.name (is_among d.name.id sc.here) d.length (count_terms d.values) in
      let tail_ = in_locals text (with_name sc d.name.id (is_array d.length)) rest in
      let h0 = none_left own (findings_faults j (in_terms text sc d.values ++ tail_)) h in
      let h1 = none_right own (findings_faults j (in_terms text sc d.values ++ tail_)) h in
      let again = not_broken (is_among d.name.id sc.here) d.name.place 2 (none_left (fault_if (is_among d.name.id sc.here) d.name.place 2) _ h0) in
      let m' = agree_more sc s (local_slot slot d) (is_array d.length) m (seen_size d.length) again in
      let others = locals_names (with_name sc d.name.id (is_array d.length)) (s ++ local_slot slot d ∷ []) m' (slot + slots_of d.length) rest one.1 (parts_right j (in_terms text sc d.values) tail_ h1) in (
        same_found (vars_of (lower_local text s slot d)) (vars_list (lower_locals text (s ++ local_slot slot d ∷ []) (slot + slots_of d.length) rest)) (in_local text sc d) tail_
            (local_names sc s m slot d.name d.length d.values one.0 (parts_left j (in_terms text sc d.values) tail_ h1)) others.0,
        others.1,
      )
