-- A name stands for a variable in lowered text where it is the variable's and no local hides it: by itself for a single one, with an index for an element.
use Rattle.std.proofs.Common.{ℕ, ◌+◌, ◌<◌, ◌≡◌, ◌∙◌, ◌==◌, sym, ap, refl, ℤ, Bool, true, false, cond, is_some, Option, Some, None, List, [], ◌∷◌, arith}
use Rattle.std.proofs.lemmas.Bool.Decides.{nat_tests}
use Rattle.forec_tree.specs.declared.tree.Number.{Number}
use Rattle.forec_tree.specs.Terms.{Text, PlainItem, PlainGlobal, IsGlobal, IsFunction}
use Rattle.forec_tree.specs.Scopes.{find_item, stated_length}
use Rattle.forec_tree.specs.Variables.{width, elements}
use Rattle.forec_tree.specs.Rules.{is_constant}
use Rattle.forec_tree.specs.Faults.{is_in}
use Rattle.forec_kernel.specs.WellFormed.{count_up}
use Rattle.text_kernel.specs.declared.names.Slot.{Slot}
use Rattle.text_kernel.specs.declared.names.Stands.{Stands}
use Rattle.text_kernel.specs.declared.names.Stands.TheVariants as st
use Rattle.text_kernel.specs.Bindings.{number_among, variable_number, is_table, find_slot, slot_stands, item_stands, constant_stands, variable_stands, first_value}
use Rattle.text_kernel.specs.Lowering.{stands, read_as, vars_in}
use Rattle.text_kernel.proofs.SameGlobal.{same_global, constant_other, row_same}
use Rattle.text_chains.specs.Tallies.{names, names_alone, names_indexed}
use Rattle.text_chains.proofs.Parts.{seen}
use Rattle.text_chains.proofs.Telling.{row_as}

module _ (text : Text) (g : PlainGlobal) (is_item : find_item g.name.id text ≡ Some (IsGlobal g)) (changes : is_constant g.kind ≡ false) (nth : ℕ) (is_one : nth < width g) where
  abbrev i : ℕ
  i = g.name.id

  abbrev array : Bool
  array = is_some (stated_length g)

  abbrev v : ℕ
  v = variable_number g.name.id text + nth

  abbrev row : PlainGlobal → List ℕ
  row h = count_up (variable_number h.name.id text) (width h)

  -- an item that isn't a global is another than the variable's
  other_item : (id : ℕ) (it : Option PlainItem) → find_item id text ≡ it → ((h : PlainGlobal) → it ≡ Some (IsGlobal h) → ⊥) → (id == i) ≡ false
  other_item id it e n = pick (id == i) refl
    where
      pick : (b : Bool) → (id == i) ≡ b → b ≡ false
      pick false d = refl
      pick true d =
          let is : id ≡ i = grind (arith, nat_tests) in
          absurd (n g (sym e ∙ (ap (λ m. find_item m text) is ∙ is_item)))

  -- one of the two ways to name a variable: what it names of what a name stands for, and which names those are
  module _
      (f : Stands → List ℕ) (way : Bool → Bool → Bool) (no_way : (a : Bool) → way a false ≡ false) (slot_none : (n : ℕ) → f (st.AtSlot n) ≡ []) (slots_none : (n m : ℕ) → f (st.AtSlots n m) ≡ [])
      (number_none : (n : ℤ) → f (st.AsNumber n) ≡ []) (table_none : (n : ℕ) → f (st.AsTable n) ≡ []) (nothing_none : f st.AsNothing ≡ [])
      (own : (h : PlainGlobal) → is_in v (f (variable_stands text h)) ≡ way (is_some (stated_length h)) (is_in v (row h))) where
    other_name : (id : ℕ) → (id == i) ≡ false → false ≡ way array (id == i)
    other_name id e = sym (ap (way array) e ∙ no_way array)

    variable_named : (id : ℕ) (h : PlainGlobal) → find_item id text ≡ Some (IsGlobal h) → is_constant h.kind ≡ false → is_in v (f (variable_stands text h)) ≡ way array (id == i)
    variable_named id h e c = own h ∙ (ap (way (is_some (stated_length h))) (row_same text g is_item changes nth is_one id h e c) ∙ pick (id == i) refl)
      where
        pick : (b : Bool) → (id == i) ≡ b → way (is_some (stated_length h)) b ≡ way array b
        pick true d = ap (λ (x : PlainGlobal). way (is_some (stated_length x)) true) (same_global text g is_item id h e d)
        pick false d = no_way (is_some (stated_length h)) ∙ sym (no_way array)

    constant_named : (h : PlainGlobal) (o : Option Number) → f (elim o [ None ↦ st.AsNumber (first_value h.values) | Some n ↦ st.AsTable (number_among is_table h.name.id text) ]) ≡ []
    constant_named h None = number_none (first_value h.values)
    constant_named h (Some n) = table_none (number_among is_table h.name.id text)

    global_named : (id : ℕ) (h : PlainGlobal) (b : Bool) → find_item id text ≡ Some (IsGlobal h) → is_constant h.kind ≡ b →
        is_in v (f (cond b (constant_stands text h) (variable_stands text h))) ≡ way array (id == i)
    global_named id h true e c = ap (is_in v) (constant_named h h.length) ∙ other_name id (constant_other text g is_item changes id h e c)
    global_named id h false e c = variable_named id h e c

    item_named : (id : ℕ) (it : Option PlainItem) → find_item id text ≡ it → is_in v (f (item_stands text it)) ≡ way array (id == i)
    item_named id None e = ap (is_in v) nothing_none ∙ other_name id (other_item id None e (λ h d. (let q : None ≡ Some (IsGlobal h) = d in cc)))
    item_named id (Some (IsFunction k)) e = ap (is_in v) nothing_none ∙ other_name id (other_item id (Some (IsFunction k)) e (λ h d. (let q : Some (IsFunction k) ≡ Some (IsGlobal h) = d in cc)))
    item_named id (Some (IsGlobal h)) e = global_named id h (is_constant h.kind) e refl

    slot_named : (slot : ℕ) (o : Option ℕ) → f (elim o [ None ↦ st.AtSlot slot | Some n ↦ st.AtSlots slot n ]) ≡ []
    slot_named slot None = slot_none slot
    slot_named slot (Some n) = slots_none slot n

    -- the scope hides the name where it has it
    name_named : (id : ℕ) (o : Option Slot) (h : Bool) → (id ≡ i → is_some o ≡ h) → is_in v (f (elim o [ Some s ↦ slot_stands s | None ↦ item_stands text (find_item id text) ])) ≡ way array (names i h id)
    name_named id (Some x) true w = ap (is_in v) (slot_named x.slot x.size) ∙ sym (no_way array)
    name_named id (Some x) false w = ap (is_in v) (slot_named x.slot x.size) ∙ other_name id (pick (id == i) refl)
      where
        pick : (b : Bool) → (id == i) ≡ b → b ≡ false
        pick false d = refl
        pick true d = let e = w (grind (arith, nat_tests)) in let q : true ≡ false = e in cc
    name_named id None false w = item_named id (find_item id text) refl
    name_named id None true w = item_named id (find_item id text) refl ∙ ap (way array) (pick (id == i) refl)
      where
        pick : (b : Bool) → (id == i) ≡ b → b ≡ false
        pick false d = refl
        pick true d = let e = w (grind (arith, nat_tests)) in let q : false ≡ true = e in cc

    named : (s : List Slot) (h : Bool) → seen i s ≡ h → (id : ℕ) → is_in v (f (stands text s id)) ≡ way array (names i h id)
    named s h w id = name_named id (find_slot id None s) h (λ e. ap (λ n. is_some (find_slot n None s)) e ∙ w)

  never_alone : (a : Bool) → cond a false false ≡ false
  never_alone true = refl
  never_alone false = refl

  pub reads : (s : List Slot) (h : Bool) → seen i s ≡ h → (id : ℕ) → is_in v (vars_in (read_as (stands text s id))) ≡ names_alone i array h id
  reads = named (λ x. vars_in (read_as x)) (λ a p. cond a false p) never_alone (λ n. refl) (λ n m. refl) (λ n. refl) (λ n. refl) refl (λ h. pick (variable_number h.name.id text) (stated_length h))
    where
      pick : (first : ℕ) (o : Option Number) →
          is_in v (vars_in (read_as (elim o [ None ↦ st.AsVariable first | Some n ↦ st.AsVariables first (elements n) ])))
          ≡ cond (is_some o) false (is_in v (count_up first (elim o [ None ↦ 1 | Some n ↦ elements n ])))
      pick first None = refl
      pick first (Some n) = refl

  pub rows : (s : List Slot) (h : Bool) → seen i s ≡ h → (id : ℕ) → is_in v (row_as (stands text s id)) ≡ names_indexed i array h id
  rows = named row_as (λ a p. cond a p false) never_alone (λ n. refl) (λ n m. refl) (λ n. refl) (λ n. refl) refl (λ h. pick (variable_number h.name.id text) (stated_length h))
    where
      pick : (first : ℕ) (o : Option Number) →
          is_in v (row_as (elim o [ None ↦ st.AsVariable first | Some n ↦ st.AsVariables first (elements n) ]))
          ≡ cond (is_some o) (is_in v (count_up first (elim o [ None ↦ 1 | Some n ↦ elements n ]))) false
      pick first None = refl
      pick first (Some n) = refl
