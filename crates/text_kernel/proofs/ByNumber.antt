-- The variables of a program that breaks no rule, by their numbers; and lists of numbers beside lists of variables.
use Rattle.std.proofs.Common.{ℕ, zero, suc, ◌+◌, ◌<◌, ◌≤◌, ◌≡◌, ◌∙◌, sym, ap, refl, subst, Bool, true, false, cond, ◌==◌, Option, Some, None, List, [], ◌∷◌, ◌++◌, map, length, length-append, ◌-◌, ⊎_elim, arith}
use Rattle.std.specs.Prelude.{slice_get}
use Rattle.std.proofs.lemmas.Bool.Decides.{nat_tests}
use Rattle.std.proofs.lemmas.Bool.{cases_lt}
use Rattle.forec_tree.specs.Terms.{Text, PlainItem, PlainGlobal, IsGlobal, IsFunction}
use Rattle.forec_tree.specs.declared.tree.Number.{Number}
use Rattle.forec_tree.specs.Scopes.{find_item, name_of, stated_length}
use Rattle.forec_tree.specs.Rules.{is_constant}
use Rattle.forec_tree.specs.Faults.{is_in, Member, here, later, Before, after_item, item_faults, items_faults}
use Rattle.forec_tree.specs.Variables.{PlainVariable, elements, width, elements_from, variables_of, variables}
use Rattle.forec_tree.specs.ThreadTree.{those_in}
use Rattle.forec_tree.proofs.VariableCounts.{width_counted}
use Rattle.forec_kernel.specs.WellFormed.{count_up}
use Rattle.text_kernel.specs.Bindings.{variables_in, variable_number, item_id}
use Rattle.text_kernel.specs.Kernels.{filter_in}
use Rattle.text_kernel.proofs.VariableNumbers.{width_of, own_number, next_number}
use Rattle.text_kernel.proofs.Fine.{none_left, none_right}
use Rattle.text_kernel.proofs.Faultless.{new_name, items_after}
use Rattle.text_kernel.proofs.Known.{same_id}

-- ---- lists

get_left : {A : Type 0} (xs ys : List A) (n : ℕ) → n < length xs → slice_get (xs ++ ys) n ≡ slice_get xs n
get_left [] ys n l = absurd (omega arith)
get_left (x ∷ xs) ys zero l = refl
get_left (x ∷ xs) ys (suc n) l = get_left xs ys n (omega arith)

get_right : {A : Type 0} (xs ys : List A) (n : ℕ) → slice_get (xs ++ ys) (length xs + n) ≡ slice_get ys n
get_right [] ys n = let e : 0 + n ≡ n = omega arith in ap (slice_get ys) e
get_right (x ∷ xs) ys n = let e : suc (length xs) + n ≡ suc (length xs + n) = omega arith in ap (slice_get (x ∷ xs ++ ys)) e ∙ get_right xs ys n

-- the elements of an array are elements of it
element_of : (g : PlainGlobal) (from count n : ℕ) (x : PlainVariable) → slice_get (elements_from g from count) n ≡ Some x → x.global ≡ g
element_of g from zero n x h = cc
element_of g from (suc count) zero x h =
    let same : record { global = g; index = Some from } ≡ x = cc in ap (λ (y : PlainVariable). y.global) (sym same)
element_of g from (suc count) (suc n) x h = element_of g (suc from) count n x h

own_variable : (g : PlainGlobal) (n : ℕ) (x : PlainVariable) → slice_get (variables_of g) n ≡ Some x → x.global ≡ g
own_variable g n x h = pick (stated_length g) n h
  where
    pick : (o : Option Number) (m : ℕ) → slice_get (elim o [ None ↦ record { global = g; index = None } ∷ [] | Some k ↦ elements_from g 0 (elements k) ]) m ≡ Some x → x.global ≡ g
    pick None zero e = let same : record { global = g; index = None } ≡ x = cc in ap (λ (y : PlainVariable). y.global) (sym same)
    pick None (suc m) e = cc
    pick (Some k) m e = element_of g 0 (elements k) m x e

-- ---- variables by number

member_left : (y : PlainItem) (xs ys : List PlainItem) → Member y xs → Member y (xs ++ ys)
member_left y [] ys p = elim p [ ]
member_left y (x ∷ xs) ys here = here
member_left y (x ∷ xs) ys (later p) = later (member_left y xs ys p)

member_right : (y : PlainItem) (xs ys : List PlainItem) → Member y ys → Member y (xs ++ ys)
member_right y [] ys p = p
member_right y (x ∷ xs) ys p = later (member_right y xs ys p)

other_step : (id : ℕ) (y x : PlainItem) (xs : List PlainItem) (b : Bool) → ((name_of x).id == id) ≡ b → cond b (Some x) (find_item id xs) ≡ None → Member y (x ∷ xs) →
    (find_item id xs ≡ None → Member y xs → ((name_of y).id == id) ≡ false) → ((name_of y).id == id) ≡ false
other_step id y x xs true d f p k = cc
other_step id y x xs false d f here k = d
other_step id y x xs false d f (later q) k = k f q

other_name : (id : ℕ) (y : PlainItem) (xs : List PlainItem) → find_item id xs ≡ None → Member y xs → ((name_of y).id == id) ≡ false
other_name id y [] e p = elim p [ ]
other_name id y (x ∷ xs) e p = other_step id y x xs ((name_of x).id == id) refl e p (λ f q. other_name id y xs f q)

module _ (text : Text) (names : List (List ℕ)) where
  -- an item has another name than those before it
  fresh : (b : Before) (t : List PlainItem) (z y : PlainItem) → items_faults text names b t ≡ [] → Member z t → Member y b.items → ((name_of y).id == (name_of z).id) ≡ false
  fresh b [] z y h p q = elim p [ ]
  fresh b (x ∷ t) z y h here q = other_name (name_of x).id y b.items (new_name text names b x (none_left (item_faults text names b x) (items_faults text names (after_item b x) t) h)) q
  fresh b (x ∷ t) z y h (later p) q =
      fresh (after_item b x) t z y (none_right (item_faults text names b x) (items_faults text names (after_item b x) t) h) p
      (subst (Member y) (sym (items_after b x)) (member_left y b.items (x ∷ []) q))

  -- what is known of the variable of a number: of which global it is an element
  pub record Numbered (t : List PlainItem) (n : ℕ) : Type 0 where
    pub global : PlainGlobal
    pub index : ℕ
    pub member : Member (IsGlobal global) t
    pub changes : is_constant global.kind ≡ false
    pub below : index < width global
    pub of : (x : PlainVariable) → slice_get (variables t) n ≡ Some x → x.global ≡ global
    pub number : variable_number global.name.id t + index ≡ n

  -- one more item, with another name
  past : (y : PlainItem) (t : List PlainItem) (n m : ℕ) (r : Numbered t n) → ((name_of y).id == r.global.name.id) ≡ false → variables_in y + n ≡ m →
      variable_number r.global.name.id (y ∷ t) + r.index ≡ m
  past y t n m r e s =
      let d : (item_id y == r.global.name.id) ≡ false = ap (λ k. k == r.global.name.id) (same_id y) ∙ e in
      let k = next_number r.global.name.id y t d in
      let number = r.number in
      omega (arith, k, number, s)

  later_one : (g : PlainGlobal) (t : List PlainItem) (n m : ℕ) (r : Numbered t n) → ((name_of (IsGlobal g)).id == r.global.name.id) ≡ false → variables_in (IsGlobal g) + n ≡ m →
      slice_get (variables (IsGlobal g ∷ t)) m ≡ slice_get (variables t) n → Numbered (IsGlobal g ∷ t) m
  later_one g t n m r e s same =
      record {
        global = r.global;
        index = r.index;
        member = later r.member;
        changes = r.changes;
        below = r.below;
        of = λ x h. r.of x (sym same ∙ h);
        number = past (IsGlobal g) t n m r e s;
      }

  by_kind : (g : PlainGlobal) (t : List PlainItem) (b : Bool) → is_constant g.kind ≡ b → ((n : ℕ) → n < length (variables t) → Numbered t n) →
      ((z : PlainItem) → Member z t → (g.name.id == (name_of z).id) ≡ false) → (n : ℕ) → n < length (variables (IsGlobal g ∷ t)) → Numbered (IsGlobal g ∷ t) n
  by_kind g t true e rest new n l =
      let all : variables (IsGlobal g ∷ t) ≡ variables t = ap (λ b. cond b (variables t) (variables_of g ++ variables t)) e in
      let long = ap (λ (x : List PlainVariable). length x) all in
      let r = rest n (omega (arith, l, long)) in
      let none : variables_in (IsGlobal g) ≡ 0 = ap (λ b. cond b 0 (width g)) e in
      later_one g t n n r (new (IsGlobal r.global) r.member) (omega (arith, none)) (ap (λ (x : List PlainVariable). slice_get x n) all)
  by_kind g t false e rest new n l = ⊎_elim own further (cases_lt n (width g))
    where
      all : variables (IsGlobal g ∷ t) ≡ variables_of g ++ variables t
      all = ap (λ b. cond b (variables t) (variables_of g ++ variables t)) e

      own : n < width g → Numbered (IsGlobal g ∷ t) n
      own k =
          let first = own_number g.name.id (IsGlobal g) t (grind (arith, nat_tests)) in
          let wide = width_counted g in
          record {
            global = g;
            index = n;
            member = here;
            changes = e;
            below = k;
            of = λ x h. own_variable g n x (sym (get_left (variables_of g) (variables t) n (omega (arith, k, wide))) ∙ (ap (λ (y : List PlainVariable). slice_get y n) (sym all) ∙ h));
            number = omega (arith, first);
          }

      further : width g ≤ n → Numbered (IsGlobal g ∷ t) n
      further k =
          let m = n - width g in
          let wide = width_counted g in
          let long = ap (λ (x : List PlainVariable). length x) all in
          let sum = length-append (variables_of g) (variables t) in
          let r = rest m (omega (arith, l, k, wide, long, sum)) in
          let many = width_of g e in
          let there : length (variables_of g) + m ≡ n = omega (arith, k, wide) in
          later_one g t m n r (new (IsGlobal r.global) r.member) (omega (arith, many, k))
          (ap (λ (y : List PlainVariable). slice_get y n) all ∙ (ap (slice_get (variables_of g ++ variables t)) (sym there) ∙ get_right (variables_of g) (variables t) m))

  pub numbered_in : (b : Before) (t : List PlainItem) → items_faults text names b t ≡ [] → (n : ℕ) → n < length (variables t) → Numbered t n
  numbered_in b [] h n l = absurd (omega arith)
  numbered_in b (IsFunction f ∷ t) h n l =
      let others = none_right (item_faults text names b (IsFunction f)) (items_faults text names (after_item b (IsFunction f)) t) h in
      let r = numbered_in (after_item b (IsFunction f)) t others n l in
      let new = fresh (after_item b (IsFunction f)) t (IsGlobal r.global) (IsFunction f) others r.member
      (subst (Member (IsFunction f)) (sym (items_after b (IsFunction f))) (member_right (IsFunction f) b.items (IsFunction f ∷ []) here)) in
      record { global = r.global; index = r.index; member = later r.member; changes = r.changes; below = r.below; of = r.of; number = past (IsFunction f) t n n r new (omega arith) }
  numbered_in b (IsGlobal g ∷ t) h n l =
      let others = none_right (item_faults text names b (IsGlobal g)) (items_faults text names (after_item b (IsGlobal g)) t) h in
      let seen = subst (Member (IsGlobal g)) (sym (items_after b (IsGlobal g))) (member_right (IsGlobal g) b.items (IsGlobal g ∷ []) here) in
      by_kind g t (is_constant g.kind) refl (λ m k. numbered_in (after_item b (IsGlobal g)) t others m k)
      (λ z p. fresh (after_item b (IsGlobal g)) t z (IsGlobal g) others p seen) n l

-- ---- lists of numbers, and of variables

abbrev pub Behind : List PlainVariable → ℕ → List PlainVariable → Type 0
Behind all from list = (n : ℕ) → n < length list → slice_get all (from + n) ≡ slice_get list n

behind_head : (all : List PlainVariable) (from : ℕ) (x : PlainVariable) (list : List PlainVariable) → Behind all from (x ∷ list) → slice_get all from ≡ Some x
behind_head all from x list h = let e : from + 0 ≡ from = omega arith in ap (slice_get all) (sym e) ∙ h 0 (omega arith)

behind_tail : (all : List PlainVariable) (from : ℕ) (x : PlainVariable) (list : List PlainVariable) → Behind all from (x ∷ list) → Behind all (suc from) list
behind_tail all from x list h n l = let e : suc from + n ≡ from + suc n = omega arith in ap (slice_get all) e ∙ h (suc n) (omega arith)

pub all_variables : (all : List PlainVariable) (from : ℕ) (list : List PlainVariable) → Behind all from list → map (slice_get all) (count_up from (length list)) ≡ map Some list
all_variables all from [] h = refl
all_variables all from (x ∷ list) h =
    ap (λ n. n ∷ map (slice_get all) (count_up (suc from) (length list))) (behind_head all from x list h)
    ∙ ap (λ l. Some x ∷ l) (all_variables all (suc from) list (behind_tail all from x list h))

pub filtered_variables : (all : List PlainVariable) (vs gs : List ℕ) (from : ℕ) (list : List PlainVariable) → Behind all from list →
    ((n : ℕ) (x : PlainVariable) → slice_get list n ≡ Some x → is_in (from + n) vs ≡ is_in x.global.name.id gs) →
    map (slice_get all) (filter_in vs (count_up from (length list))) ≡ map Some (those_in gs list)
filtered_variables all vs gs from [] h k = refl
filtered_variables all vs gs from (x ∷ list) h k =
    pick (is_in from vs) (is_in x.global.name.id gs) own (behind_head all from x list h)
    (filtered_variables all vs gs (suc from) list (behind_tail all from x list h)
    (λ n y l. (let e : suc from + n ≡ from + suc n = omega arith in ap (λ z. is_in z vs) e ∙ k (suc n) y l)))
  where
    own : is_in from vs ≡ is_in x.global.name.id gs
    own = let e : from + 0 ≡ from = omega arith in ap (λ y. is_in y vs) (sym e) ∙ k 0 x refl

    pick : (b c : Bool) → b ≡ c → slice_get all from ≡ Some x → map (slice_get all) (filter_in vs (count_up (suc from) (length list))) ≡ map Some (those_in gs list) →
        map (slice_get all) (cond b (from ∷ filter_in vs (count_up (suc from) (length list))) (filter_in vs (count_up (suc from) (length list)))) ≡ map Some (cond c (x ∷ those_in gs list) (those_in gs list))
    pick true true e d r = ap (λ n. n ∷ map (slice_get all) (filter_in vs (count_up (suc from) (length list)))) d ∙ ap (λ l. Some x ∷ l) r
    pick false false e d r = r
    pick true false e d r = cc
    pick false true e d r = cc
