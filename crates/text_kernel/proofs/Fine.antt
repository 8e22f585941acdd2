-- Terms of a text without faults are in range: slots, variables, tables, functions and the numbers of arguments.
use Rattle.std.proofs.Common.{ℕ, suc, ◌+◌, ◌<◌, ◌≤◌, ◌≡◌, ◌∙◌, sym, ap, refl, Bool, true, false, cond, not, ◌==◌, ◌&&◌, Option, Some, None, List, [], ◌∷◌, ◌++◌, length, map, subst, arith}
use Rattle.std.proofs.lemmas.Bool.Decides.{nat_tests}
use Rattle.forec_base.specs.declared.Place.{Place}
use Rattle.forec_base.specs.declared.operators.Binary.{Binary}
use Rattle.forec_tree.specs.declared.tree.Name.{Name}
use Rattle.forec_tree.specs.declared.tree.Number.{Number}
use Rattle.forec_tree.specs.declared.uses.Seen.{Seen}
use Rattle.forec_tree.specs.declared.uses.Meaning.{Meaning}
use Rattle.forec_tree.specs.declared.uses.How.{How}
use Rattle.forec_tree.specs.declared.uses.How.TheVariants.{Reads, Indexes, Computes}
use Rattle.forec_tree.specs.Terms.{Term, Num, Read, Element, Un, Bin, And, Or, Choose, Call, Terms, no_terms, more_terms, count_terms, Text, PlainItem, PlainGlobal, PlainFunction, IsGlobal, IsFunction}
use Rattle.forec_tree.specs.Scopes.{Scope, find_item, find_last, is_array, stated_length, local_meaning, item_meaning, meaning}
use Rattle.forec_tree.specs.Variables.{elements, width}
use Rattle.forec_tree.specs.Findings.{Finding, in_term, in_terms}
use Rattle.forec_tree.specs.Rules.{Judging, fault_if, is_constant, is_changing, is_input, is_unknown, means_kind, writes, enters_main, fits_use, argument_count, miscounts, use_faults, findings_faults}
use Rattle.forec_tree.specs.Faults.{Member, here, later}
use Rattle.forec_tree.proofs.FindingFaults.{findings-append}
use Rattle.forec_kernel.specs.Terms.{Expr, count_exprs}
use Rattle.forec_kernel.specs.Shapes.{PlainKernel}
use Rattle.forec_kernel.specs.Combining.{contains}
use Rattle.forec_kernel.specs.WellFormed as wf
use Rattle.forec_kernel.specs.WellFormed.{FineExpr, FineExprs, count_up, all_in, function_params, has_place, can_divide}
use Rattle.text_kernel.specs.declared.names.Slot.{Slot}
use Rattle.text_kernel.specs.declared.names.Stands.TheVariants as st
use Rattle.text_kernel.specs.Bindings.{find_slot, slot_stands, item_stands, constant_stands, variable_stands, number_among, variable_number, is_table, is_int_function}
use Rattle.text_kernel.specs.Lowering.{read_as, element_as, place_if, lower_term, lower_terms}
use Rattle.text_kernel.proofs.VariableNumbers.{constant_length}

-- ---- no fault in parts

pub none_left : {A : Type 0} (xs ys : List A) → xs ++ ys ≡ [] → xs ≡ []
none_left [] ys h = refl
none_left (x ∷ xs) ys h = cc

pub none_right : {A : Type 0} (xs ys : List A) → xs ++ ys ≡ [] → ys ≡ []
none_right [] ys h = h
none_right (x ∷ xs) ys h = cc

pub not_broken : (b : Bool) (place : Place) (rule : ℕ) → fault_if b place rule ≡ [] → b ≡ false
not_broken true place rule h = cc
not_broken false place rule h = refl

pub not_not : (b : Bool) → not b ≡ false → b ≡ true
not_not true h = refl
not_not false h = cc

-- what rules 1, 4, 5 and 11 say of a use
pub record GoodUse (gives : Bool) (how : How) (m : Meaning) : Type 0 where
  pub constant : (gives && means_kind is_changing m) ≡ false
  pub known : is_unknown m ≡ false
  pub fits : fits_use how m ≡ true
  pub written : writes how ≡ true → means_kind is_constant m ≡ false
  pub counts : miscounts (argument_count how) m ≡ false

pub right_false : (a b : Bool) → a ≡ true → (a && b) ≡ false → b ≡ false
right_false true b e h = h
right_false false b e h = cc

pub good_use : (j : Judging) (how : How) (name : Name) (m : Meaning) → use_faults j how name m ≡ [] → GoodUse j.gives how m
good_use j how name m h =
    let r = none_right (fault_if (is_unknown m) name.place 1) _ h in
    let q = none_right (fault_if (not (fits_use how m)) name.place 4) _ r in
    let q5 = none_right (fault_if (miscounts (argument_count how) m) name.place 5) _ q in
    let q7 = none_right (fault_if (enters_main j.names (argument_count how) m name) name.place 7) _ q5 in
    let q8 = none_right (fault_if (writes how && means_kind is_input m) name.place 8) _ q7 in
    let q9 = none_right (fault_if (writes how && means_kind is_constant m) name.place 9) _ q8 in
    record {
      constant = not_broken (j.gives && means_kind is_changing m) name.place 11 (none_left (fault_if (j.gives && means_kind is_changing m) name.place 11) _ q9);
      written = λ w. right_false (writes how) (means_kind is_constant m) w (not_broken (writes how && means_kind is_constant m) name.place 9 (none_left (fault_if (writes how && means_kind is_constant m) name.place 9) _ q8));
      known = not_broken (is_unknown m) name.place 1 (none_left (fault_if (is_unknown m) name.place 1) _ h);
      fits = not_not (fits_use how m) (not_broken (not (fits_use how m)) name.place 4 (none_left (fault_if (not (fits_use how m)) name.place 4) _ r));
      counts = not_broken (miscounts (argument_count how) m) name.place 5 (none_left (fault_if (miscounts (argument_count how) m) name.place 5) _ q);
    }

pub parts_left : (j : Judging) (xs ys : List Finding) → findings_faults j (xs ++ ys) ≡ [] → findings_faults j xs ≡ []
parts_left j xs ys h = none_left (findings_faults j xs) (findings_faults j ys) (sym (findings-append j xs ys) ∙ h)

pub parts_right : (j : Judging) (xs ys : List Finding) → findings_faults j (xs ++ ys) ≡ [] → findings_faults j ys ≡ []
parts_right j xs ys h = none_right (findings_faults j xs) (findings_faults j ys) (sym (findings-append j xs ys) ∙ h)

-- ---- the two scopes

abbrev pub has_size : Option ℕ → Bool
has_size None = false
has_size (Some n) = true

abbrev pub seen_of : Slot → Seen
seen_of x = record { id = x.id; array = has_size x.size }

abbrev pub seen_option : Option Slot → Option Seen
seen_option None = None
seen_option (Some x) = Some (seen_of x)

abbrev pub long_of : Option ℕ → ℕ
long_of None = 1
long_of (Some n) = n

-- a slot of a thread with so many words
pub record GoodSlot (words : ℕ) (x : Slot) : Type 0 where
  pub within : x.slot + long_of x.size ≤ words
  pub some : 1 ≤ long_of x.size
  pub most : long_of x.size ≤ 65536

-- the scope of the rules and the scope of the translation are one
pub record Matches (words : ℕ) (sc : Scope) (s : List Slot) : Type 0 where
  pub same : map seen_of s ≡ sc.outer ++ sc.here
  pub good : (x : Slot) → Member x s → GoodSlot words x

pub found : (id : ℕ) (f : Option Slot) (s : List Slot) → find_last id (seen_option f) (map seen_of s) ≡ seen_option (find_slot id f s)
found id f [] = refl
found id f (x ∷ s) = ap (λ o. find_last id o (map seen_of s)) (both_ways (x.id == id)) ∙ found id (cond (x.id == id) (Some x) f) s
  where
    both_ways : (b : Bool) → cond b (Some (seen_of x)) (seen_option f) ≡ seen_option (cond b (Some x) f)
    both_ways true = refl
    both_ways false = refl

pub data FoundSlot (s : List Slot) (f : Option Slot) : Option Slot → Type 0 where
  is_old : FoundSlot s f f
  is_among : (x : Slot) → Member x s → FoundSlot s f (Some x)

found_more : (y : Slot) (s : List Slot) (f o : Option Slot) (b : Bool) → FoundSlot s (cond b (Some y) f) o → FoundSlot (y ∷ s) f o
found_more y s f o true is_old = is_among y here
found_more y s f o false is_old = is_old
found_more y s f o b (is_among x m) = is_among x (later m)

pub finds : (id : ℕ) (f : Option Slot) (s : List Slot) → FoundSlot s f (find_slot id f s)
finds id f [] = is_old
finds id f (y ∷ s) = found_more y s f (find_slot id f (y ∷ s)) (y.id == id) (finds id (cond (y.id == id) (Some y) f) s)

-- how many elements a shared array may have
pub record Sized (n : Number) : Type 0 where
  pub some : 1 ≤ elements n
  pub most : elements n ≤ 65536

-- what is known of the item that a name means, in a thread or (`gives`) in an int function
pub record GoodItem (text : Text) (k : PlainKernel) (uses : List ℕ) (gives : Bool) (id : ℕ) (i : Option PlainItem) : Type 0 where
  pub variables : (g : PlainGlobal) → i ≡ Some (IsGlobal g) → is_constant g.kind ≡ false → gives ≡ false → all_in (count_up (variable_number g.name.id text) (width g)) uses ≡ true
  pub sized : (g : PlainGlobal) (n : Number) → i ≡ Some (IsGlobal g) → is_constant g.kind ≡ false → gives ≡ false → stated_length g ≡ Some n → Sized n
  pub table : (g : PlainGlobal) → i ≡ Some (IsGlobal g) → is_constant g.kind ≡ true → is_array g.length ≡ true → number_among is_table g.name.id text < length k.shape.tables
  pub function : (f : PlainFunction) → i ≡ Some (IsFunction f) → f.gives ≡ true → number_among is_int_function id text < length k.functions
  pub params : (f : PlainFunction) → i ≡ Some (IsFunction f) → f.gives ≡ true → function_params k (number_among is_int_function id text) ≡ length f.params

pub record Knows (text : Text) (k : PlainKernel) (uses : List ℕ) (gives : Bool) : Type 0 where
  pub item : (id : ℕ) → GoodItem text k uses gives id (find_item id text)

pub place_has : (op : Binary) (place : Place) → has_place (place_if op place) ≡ can_divide op
place_has op place = elim (can_divide op) as (λ b. has_place (cond b (Some place) None) ≡ b) [ true ↦ refl | false ↦ refl ]

pub falls : (b : Bool) → (b && true) ≡ false → b ≡ false
falls true h = cc
falls false h = refl

pub just : (b : Bool) → (b && true) ≡ true → b ≡ true
just true h = refl
just false h = cc

module _ (text : Text) (k : PlainKernel) (words : ℕ) (uses : List ℕ) (j : Judging) (knows : Knows text k uses j.gives) where
  abbrev scope : wf.TermScope
  scope = record { kernel = k; words = words; uses = uses }

  -- ---- reads

  slot_read : (slot : ℕ) (o : Option ℕ) → slot + long_of o ≤ words → not (has_size o) ≡ true → FineExpr scope (read_as (elim o [ None ↦ st.AtSlot slot | Some n ↦ st.AtSlots slot n ]))
  slot_read slot None l e = omega arith
  slot_read slot (Some n) l e = cc

  constant_read : (g : PlainGlobal) (o : Option Number) → not (is_array o) ≡ true →
      FineExpr scope (read_as (elim o [ None ↦ st.AsNumber (Rattle.text_kernel.specs.Bindings.first_value g.values) | Some n ↦ st.AsTable (number_among is_table g.name.id text) ]))
  constant_read g None e = tt
  constant_read g (Some n) e = cc

  variable_read : (v : ℕ) (o : Option Number) → all_in (count_up v (elim o [ None ↦ 1 | Some n ↦ elements n ])) uses ≡ true → not (is_array o) ≡ true →
      FineExpr scope (read_as (elim o [ None ↦ st.AsVariable v | Some n ↦ st.AsVariables v (elements n) ]))
  variable_read v None h e = just (contains v uses) h
  variable_read v (Some n) h e = cc

  global_read : (id : ℕ) (g : PlainGlobal) (b : Bool) → GoodItem text k uses j.gives id (Some (IsGlobal g)) → is_constant g.kind ≡ b →
      not (is_array (stated_length g)) ≡ true → (j.gives && not b) ≡ false →
      FineExpr scope (read_as (cond b (constant_stands text g) (variable_stands text g)))
  global_read id g true i e f c = constant_read g g.length (subst (λ o. not (is_array o) ≡ true) (constant_length g e) f)
  global_read id g false i e f c = variable_read (variable_number g.name.id text) (stated_length g) (i.variables g refl e (falls j.gives c)) f

  item_read : (id : ℕ) (i : Option PlainItem) → GoodItem text k uses j.gives id i → GoodUse j.gives Reads (item_meaning i) → FineExpr scope (read_as (item_stands text i))
  item_read id None i u = tt
  item_read id (Some (IsFunction f)) i u = tt
  item_read id (Some (IsGlobal g)) i u = global_read id g (is_constant g.kind) i refl u.fits u.constant

  name_read : (id : ℕ) (f : Option Slot) (i : Option PlainItem) → ((x : Slot) → f ≡ Some x → GoodSlot words x) → GoodItem text k uses j.gives id i →
      GoodUse j.gives Reads (local_meaning (seen_option f) (item_meaning i)) → FineExpr scope (read_as (elim f [ Some s ↦ slot_stands s | None ↦ item_stands text i ]))
  name_read id (Some x) i g w u = slot_read x.slot x.size (g x refl).within u.fits
  name_read id None i g w u = item_read id i w u

  -- ---- elements

  slot_element : (slot : ℕ) (o : Option ℕ) (e : Expr) (place : Place) → slot + long_of o ≤ words → 1 ≤ long_of o → long_of o ≤ 65536 → has_size o ≡ true → FineExpr scope e →
      FineExpr scope (element_as (elim o [ None ↦ st.AtSlot slot | Some n ↦ st.AtSlots slot n ]) e place)
  slot_element slot None e place l m n h f = cc
  slot_element slot (Some n) e place l m q h f = (record { within = l; some = m; most = q }, f)

  constant_element : (g : PlainGlobal) (o : Option Number) (e : Expr) (place : Place) → is_array o ≡ true → number_among is_table g.name.id text < length k.shape.tables → FineExpr scope e →
      FineExpr scope (element_as (elim o [ None ↦ st.AsNumber (Rattle.text_kernel.specs.Bindings.first_value g.values) | Some n ↦ st.AsTable (number_among is_table g.name.id text) ]) e place)
  constant_element g None e place h l f = cc
  constant_element g (Some n) e place h l f = (l, f)

  variable_element : (v : ℕ) (o : Option Number) (e : Expr) (place : Place) → all_in (count_up v (elim o [ None ↦ 1 | Some n ↦ elements n ])) uses ≡ true →
      ((n : Number) → o ≡ Some n → Sized n) → is_array o ≡ true → FineExpr scope e →
      FineExpr scope (element_as (elim o [ None ↦ st.AsVariable v | Some n ↦ st.AsVariables v (elements n) ]) e place)
  variable_element v None e place h z a f = cc
  variable_element v (Some n) e place h z a f = let r = z n refl in (record { used = h; some = r.some; most = r.most }, f)

  global_element : (id : ℕ) (g : PlainGlobal) (b : Bool) (e : Expr) (place : Place) → GoodItem text k uses j.gives id (Some (IsGlobal g)) → is_constant g.kind ≡ b →
      is_array (stated_length g) ≡ true → (j.gives && not b) ≡ false → FineExpr scope e →
      FineExpr scope (element_as (cond b (constant_stands text g) (variable_stands text g)) e place)
  global_element id g true e place i c h w f = let a = subst (λ o. is_array o ≡ true) (constant_length g c) h in constant_element g g.length e place a (i.table g refl c a) f
  global_element id g false e place i c h w f =
      let d = falls j.gives w in
      variable_element (variable_number g.name.id text) (stated_length g) e place (i.variables g refl c d) (λ n s. i.sized g n refl c d s) h f

  item_element : (id : ℕ) (i : Option PlainItem) (e : Expr) (place : Place) → GoodItem text k uses j.gives id i → GoodUse j.gives Indexes (item_meaning i) → FineExpr scope e →
      FineExpr scope (element_as (item_stands text i) e place)
  item_element id None e place i u f = let bad = u.known in cc
  item_element id (Some (IsFunction h)) e place i u f = let bad = u.fits in cc
  item_element id (Some (IsGlobal g)) e place i u f = global_element id g (is_constant g.kind) e place i refl u.fits u.constant f

  name_element : (id : ℕ) (o : Option Slot) (i : Option PlainItem) (e : Expr) (place : Place) → ((x : Slot) → o ≡ Some x → GoodSlot words x) → GoodItem text k uses j.gives id i →
      GoodUse j.gives Indexes (local_meaning (seen_option o) (item_meaning i)) → FineExpr scope e → FineExpr scope (element_as (elim o [ Some s ↦ slot_stands s | None ↦ item_stands text i ]) e place)
  name_element id (Some x) i e place g w u f = let r = g x refl in slot_element x.slot x.size e place r.within r.some r.most u.fits f
  name_element id None i e place g w u f = item_element id i e place w u f

  -- ---- calls

  right_count : (n m : ℕ) → not (n == m) ≡ false → n ≡ m
  right_count n m h = grind (arith, nat_tests)

  pub record GoodCall (id n : ℕ) : Type 0 where
    pub is : number_among is_int_function id text < length k.functions
    pub params : function_params k (number_among is_int_function id text) ≡ n

  name_call : (id n : ℕ) (o : Option Slot) (i : Option PlainItem) → GoodItem text k uses j.gives id i → GoodUse j.gives (Computes n) (local_meaning (seen_option o) (item_meaning i)) → GoodCall id n
  name_call id n (Some x) i w u = let bad = u.fits in cc
  name_call id n None None w u = let bad = u.known in cc
  name_call id n None (Some (IsGlobal g)) w u = let bad = u.fits in cc
  name_call id n None (Some (IsFunction f)) w u = record { is = w.function f refl u.fits; params = w.params f refl u.fits ∙ sym (right_count n (length f.params) u.counts) }

  -- ---- all expressions

  pub count_lowered : (s : List Slot) (es : Terms) → count_exprs (lower_terms text s es) ≡ count_terms es
  count_lowered s no_terms = refl
  count_lowered s (more_terms e rest) = ap suc (count_lowered s rest)

  pub slot_good : (sc : Scope) (s : List Slot) (id : ℕ) (o : Option Slot) → Matches words sc s → FoundSlot s None o → (x : Slot) → o ≡ Some x → GoodSlot words x
  slot_good sc s id None m is_old x e = cc
  slot_good sc s id (Some y) m (is_among z i) x e = let same : y ≡ x = cc in subst (GoodSlot words) same (m.good y i)

  means_same : (sc : Scope) (s : List Slot) (id : ℕ) → Matches words sc s → meaning text sc id ≡ local_meaning (seen_option (find_slot id None s)) (item_meaning (find_item id text))
  means_same sc s id m = ap (λ o. local_meaning o (item_meaning (find_item id text))) (ap (find_last id None) (sym m.same) ∙ found id None s)

  pub use_good : (sc : Scope) (s : List Slot) (how : How) (name : Name) → Matches words sc s → use_faults j how name (meaning text sc name.id) ≡ [] →
      GoodUse j.gives how (local_meaning (seen_option (find_slot name.id None s)) (item_meaning (find_item name.id text)))
  use_good sc s how name m h = subst (GoodUse j.gives how) (means_same sc s name.id m) (good_use j how name (meaning text sc name.id) h)

  mutual
    pub fine_term : (sc : Scope) (s : List Slot) → Matches words sc s → (e : Term) → findings_faults j (in_term text sc e) ≡ [] → FineExpr scope (lower_term text s e)
    fine_term sc s m (Num at n) h = tt
    fine_term sc s m (Read at name) h =
        name_read name.id (find_slot name.id None s) (find_item name.id text) (slot_good sc s name.id _ m (finds name.id None s)) (knows.item name.id)
        (use_good sc s Reads name m (none_left (use_faults j Reads name (meaning text sc name.id)) [] h))
    fine_term sc s m (Element at name i) h =
        name_element name.id (find_slot name.id None s) (find_item name.id text) (lower_term text s i) name.place (slot_good sc s name.id _ m (finds name.id None s)) (knows.item name.id)
        (use_good sc s Indexes name m (none_left (use_faults j Indexes name (meaning text sc name.id)) _ h))
        (fine_term sc s m i (none_right (use_faults j Indexes name (meaning text sc name.id)) _ h))
    fine_term sc s m (Un at op a) h = fine_term sc s m a h
    fine_term sc s m (Bin at op a b) h =
        (place_has op at, fine_term sc s m a (parts_left j (in_term text sc a) (in_term text sc b) h), fine_term sc s m b (parts_right j (in_term text sc a) (in_term text sc b) h))
    fine_term sc s m (And at a b) h = (fine_term sc s m a (parts_left j (in_term text sc a) (in_term text sc b) h), fine_term sc s m b (parts_right j (in_term text sc a) (in_term text sc b) h))
    fine_term sc s m (Or at a b) h = (fine_term sc s m a (parts_left j (in_term text sc a) (in_term text sc b) h), fine_term sc s m b (parts_right j (in_term text sc a) (in_term text sc b) h))
    fine_term sc s m (Choose at t a b) h =
        let r = parts_right j (in_term text sc t) (in_term text sc a ++ in_term text sc b) h in (
          fine_term sc s m t (parts_left j (in_term text sc t) (in_term text sc a ++ in_term text sc b) h),
          fine_term sc s m a (parts_left j (in_term text sc a) (in_term text sc b) r),
          fine_term sc s m b (parts_right j (in_term text sc a) (in_term text sc b) r),
        )
    fine_term sc s m (Call at name args) h =
        let how = Computes (count_terms args) in
        let c = name_call name.id (count_terms args) (find_slot name.id None s) (find_item name.id text) (knows.item name.id)
        (use_good sc s how name m (none_left (use_faults j how name (meaning text sc name.id)) _ h)) in
        (c.is, count_lowered s args ∙ sym c.params, fine_terms sc s m args (none_right (use_faults j how name (meaning text sc name.id)) _ h))

    pub fine_terms : (sc : Scope) (s : List Slot) → Matches words sc s → (es : Terms) → findings_faults j (in_terms text sc es) ≡ [] → FineExprs scope (lower_terms text s es)
    fine_terms sc s m no_terms h = tt
    fine_terms sc s m (more_terms e rest) h =
        (fine_term sc s m e (parts_left j (in_term text sc e) (in_terms text sc rest) h), fine_terms sc s m rest (parts_right j (in_term text sc e) (in_terms text sc rest) h))
