-- Orders of functions, one put after the other.
use Rattle.std.proofs.Common.{ℕ, zero, suc, ◌+◌, ◌<◌, ◌≤◌, ◌≡◌, ◌≢◌, ◌∙◌, ◌==◌, sym, ap, refl, ⊎_elim, Bool, true, false, cond, not, ◌&&◌, ◌||◌, List, [], ◌∷◌, ◌++◌, length, take, set, get_or, subst, arith, length-append, get_or-set_other, get_or-set_same}
use Rattle.std.proofs.lemmas.Bool.Decides.{nat_tests}
use Rattle.std.proofs.lemmas.Bool.{cases_lt, eqb-true, and_parts, not-true}
use Rattle.std.proofs.lemmas.List.{take-append-le, get_or_append_left}
use Rattle.std.proofs.Math.Bool.{or-true, or-false, and-false}
use Rattle.std.proofs.Math.Seq.{take-append_seam, get_or-append_seam, take-suc}
use Rattle.forec_tree.specs.Faults.{is_in}
use Rattle.std.specs.declared.vec.Vec.{Vec}
use Rattle.std.specs.declared.alloc.Global.{Global}
use Rattle.loop_check.specs.Graph.{callees, CalleesFirst, IsOrder, trues, any_waits, MarksUnordered, Held, set_at}
use Rattle.loop_check.proofs.IndexLemmas.{split}

same_id : (f : ℕ) → (f == f) ≡ true
same_id f = grind (arith, nat_tests)

pub other_id : (f g : ℕ) → (f == g) ≡ false → g ≢ f
other_id f g h = λ e. grind (arith, nat_tests)

-- ---- lists of numbers

pub is_in_snoc : (g f : ℕ) (xs : List ℕ) → is_in g (xs ++ f ∷ []) ≡ (is_in g xs || (f == g))
is_in_snoc g f [] = elim (f == g) as (λ b. cond b true false ≡ b) [ true ↦ refl | false ↦ refl ]
is_in_snoc g f (x ∷ xs) =
    elim (x == g) as (λ b. cond b true (is_in g (xs ++ f ∷ [])) ≡ (cond b true (is_in g xs) || (f == g))) [ true ↦ refl | false ↦ is_in_snoc g f xs ]

-- where a number stands
pub record At (f : ℕ) (xs : List ℕ) : Type 0 where
  pub place : ℕ
  pub low : place < length xs
  pub is : get_or xs place 0 ≡ f

pub place_of : (f : ℕ) (xs : List ℕ) → is_in f xs ≡ true → At f xs
place_of f [] h = cc
place_of f (x ∷ xs) h =
    let rest = place_of f xs in
    split (x == f) (λ e. record { place = 0; low = omega arith; is = eqb-true x f e })
    (λ e. let r = rest (sym (ap (λ b. cond b true (is_in f xs)) e) ∙ h) in record { place = suc r.place; low = let l = r.low in omega (arith, l); is = r.is })

pub is_in_at : (xs : List ℕ) (i : ℕ) → i < length xs → is_in (get_or xs i 0) xs ≡ true
is_in_at [] i h = absurd (omega arith)
is_in_at (x ∷ xs) zero h = rw (same_id x) refl
is_in_at (x ∷ xs) (suc i) h =
    let rest = is_in_at xs i (omega arith) in
    elim (x == get_or xs i 0) as (λ b. cond b true (is_in (get_or xs i 0) xs) ≡ true) [ true ↦ refl | false ↦ rest ]

-- ---- marks

pub trues_push : (xs : List Bool) → trues (xs ++ false ∷ []) ≡ trues xs
trues_push [] = omega arith
trues_push (x ∷ xs) = ap (λ n. cond x 1 0 + n) (trues_push xs)

pub trues_set : (xs : List Bool) (i : ℕ) → trues (set xs i true) ≤ trues xs + 1
trues_set [] i = omega arith
trues_set (x ∷ xs) zero = elim x as (λ b. 1 + trues xs ≤ (cond b 1 0 + trues xs) + 1) [ true ↦ omega arith | false ↦ omega arith ]
trues_set (x ∷ xs) (suc i) = let r = trues_set xs i in omega (arith, r)

pub trues_clear : (xs : List Bool) (i : ℕ) → get_or xs i false ≡ true → trues (set xs i false) < trues xs
trues_clear [] i h = cc
trues_clear (x ∷ xs) zero h = rw h (omega arith)
trues_clear (x ∷ xs) (suc i) h = let r = trues_clear xs i h in omega (arith, r)

pub any_no : (marks : List Bool) (gs : List ℕ) (g : ℕ) → any_waits marks gs ≡ false → is_in g gs ≡ true → get_or marks g false ≡ false
any_no marks [] g h i = cc
any_no marks (x ∷ xs) g h i =
    let rest = any_no marks xs g in
    split (get_or marks x false) (λ e. let k = sym (ap (λ b. b || any_waits marks xs) e) ∙ h in cc)
    (λ e.
    split (x == g) (λ q. let s : x ≡ g = eqb-true x g q in subst (λ n. get_or marks n false ≡ false) s e)
    (λ q. rest (sym (ap (λ b. b || any_waits marks xs) e) ∙ h) (sym (ap (λ b. cond b true (is_in g xs)) q) ∙ i)))

pub record Waiting (marks : List Bool) (gs : List ℕ) : Type 0 where
  pub one : ℕ
  pub stands : is_in one gs ≡ true
  pub waits : get_or marks one false ≡ true

pub any_yes : (marks : List Bool) (gs : List ℕ) → any_waits marks gs ≡ true → Waiting marks gs
any_yes marks [] h = cc
any_yes marks (x ∷ xs) h =
    let rest = any_yes marks xs in
    split (get_or marks x false) (λ e. record { one = x; stands = rw (same_id x) refl; waits = e })
    (λ e.
    let r = rest (sym (ap (λ b. b || any_waits marks xs) e) ∙ h) in
    record { one = r.one; stands = elim (x == r.one) as (λ b. cond b true (is_in r.one xs) ≡ true) [ true ↦ refl | false ↦ r.stands ]; waits = r.waits })

not_in : (a b : Bool) → a ≡ true → false ≡ (a && not b) → b ≡ true
not_in true true h e = refl
not_in true false h e = e
not_in false b h e = absurd (let q : true ≡ false = sym h in cc)

pub in_marks : (marks : List Bool) (f : ℕ) → get_or marks f false ≡ true → f < length marks
in_marks [] f h = absurd (let q : false ≡ true = h in cc)
in_marks (x ∷ xs) zero h = omega arith
in_marks (x ∷ xs) (suc f) h = let r = in_marks xs f h in omega (arith, r)

pub push_same : (xs : List Bool) (k : ℕ) → get_or (xs ++ false ∷ []) k false ≡ get_or xs k false
push_same [] zero = refl
push_same [] (suc k) = refl
push_same (x ∷ xs) zero = refl
push_same (x ∷ xs) (suc k) = push_same xs k

-- a function is put after the others
module _ (functions : List ℕ) (calls : ℕ → List ℕ) (marks : List Bool) (order : List ℕ) (f : ℕ) (w : MarksUnordered functions calls marks order) where
  right_next : get_or marks f false ≡ true → (g : ℕ) → get_or (set marks f false) g false ≡ (is_in g functions && not (is_in g (order ++ f ∷ [])))
  right_next m g =
      split (f == g)
      (λ e.
      let q : f ≡ g = eqb-true f g e in
      ap (λ n. get_or (set marks f false) n false) (sym q) ∙ get_or-set_same marks f false false (in_marks marks f m)
      ∙ sym (ap (λ b. is_in g functions && not b) (is_in_snoc g f order ∙ ap (λ b. is_in g order || b) e ∙ or-true (is_in g order)) ∙ and-false (is_in g functions)))
      (λ e.
      get_or-set_other marks f g false false (other_id f g e) ∙ w.right g
      ∙ sym (ap (λ b. is_in g functions && not b) (is_in_snoc g f order ∙ ap (λ b. is_in g order || b) e ∙ or-false (is_in g order))))

  first_next : any_waits marks (calls f) ≡ false → CalleesFirst functions calls (order ++ f ∷ [])
  first_next a k g h c i =
      ⊎_elim
      (λ (l : k < length order).
      let e : get_or (order ++ f ∷ []) k 0 ≡ get_or order k 0 = get_or_append_left order (f ∷ []) 0 k l in
      let t : take k (order ++ f ∷ []) ≡ take k order = take-append-le k order (f ∷ []) (omega arith) in
      ap (is_in g) t ∙ w.first k g l (sym (ap (λ n. is_in g (calls n)) e) ∙ c) i)
      (λ (l : length order ≤ k).
      let n = length-append order (f ∷ []) in
      let q : k ≡ length order = omega (arith, n, h) in
      let e : get_or (order ++ f ∷ []) k 0 ≡ f = ap (λ n. get_or (order ++ f ∷ []) n 0) q ∙ get_or-append_seam order f [] 0 in
      let t : take k (order ++ f ∷ []) ≡ order = ap (λ n. take n (order ++ f ∷ [])) q ∙ take-append_seam order (f ∷ []) in
      let no_wait : get_or marks g false ≡ false = any_no marks (calls f) g a (sym (ap (λ n. is_in g (calls n)) e) ∙ c) in
      ap (is_in g) t ∙ not_in (is_in g functions) (is_in g order) i (sym no_wait ∙ w.right g))
      (cases_lt k (length order))

  pub visited : get_or marks f false ≡ true → any_waits marks (calls f) ≡ false → MarksUnordered functions calls (set marks f false) (order ++ f ∷ [])
  visited m a =
      let n = length-append order (f ∷ []) in
      let t = trues_clear marks f m in
      let s = w.short in
      record { right = right_next m; first = first_next a; short = omega (arith, n, t, s) }

  -- what is left over
  pub finished : Held functions calls marks (length functions) → IsOrder functions calls order
  finished held =
      record {
        first = w.first;
        stuck = λ h i o.
            let at = place_of h functions i in
            let waits : get_or marks h false ≡ true = w.right h ∙ rw (i, o) refl in
            let any = held at.place at.low (ap (λ n. get_or marks n false) at.is ∙ waits) in
            let one = any_yes marks (calls h) (sym (ap (λ n. any_waits marks (calls n)) at.is) ∙ any) in
            let both = and_parts (is_in one.one functions) (not (is_in one.one order)) (sym (w.right one.one) ∙ one.waits) in
            record {
              callee = one.one;
              called = one.stands;
              stands = both.0;
              left = not-true (is_in one.one order) both.1;
            };
        short = let s = w.short in omega (arith, s);
      }

-- a mark is set
pub set_is : (marks : List Bool) (f g : ℕ) → f < length marks → get_or (set marks f true) g false ≡ set_at f g (get_or marks g false)
set_is marks f g h =
    split (f == g)
    (λ e. let q : f ≡ g = eqb-true f g e in ap (λ n. get_or (set marks f true) n false) (sym q) ∙ get_or-set_same marks f true false h ∙ rw e refl)
    (λ e. get_or-set_other marks f g true false (other_id f g e) ∙ rw e refl)

pub marked_step : (functions : List ℕ) (i g : ℕ) (before after : Bool) → i < length functions → after ≡ set_at (get_or functions i 0) g before →
    before ≡ is_in g (take i functions) → after ≡ is_in g (take (i + 1) functions)
marked_step functions i g before after h a b =
    let e : i + 1 ≡ suc i = omega arith in
    a ∙ ap (set_at (get_or functions i 0) g) b
    ∙ (elim (get_or functions i 0 == g) as (λ q. cond q true (is_in g (take i functions)) ≡ (is_in g (take i functions) || q)) [
      | true ↦ elim (is_in g (take i functions)) as (λ x. true ≡ (x || true)) [ true ↦ refl | false ↦ refl ]
      | false ↦ elim (is_in g (take i functions)) as (λ x. x ≡ (x || false)) [ true ↦ refl | false ↦ refl ]
    ])
    ∙ sym (is_in_snoc g (get_or functions i 0) (take i functions)) ∙ ap (is_in g) (sym (take-suc functions i 0 h)) ∙ ap (λ n. is_in g (take n functions)) (sym e)

-- an order of the functions and the lists that were lent is one of these
pub order_lent : {functions lent order : List ℕ} {lists rows : List (Vec ℕ Global)} → lent ≡ functions → rows ≡ lists → IsOrder lent (callees rows) order → IsOrder functions (callees lists) order
order_lent {functions} {lent} {order} {lists} {rows} f l o = subst (λ x. IsOrder functions (callees x) order) l (subst (λ x. IsOrder x (callees rows) order) f o)
