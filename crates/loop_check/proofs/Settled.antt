-- Values of functions that are computed in an order in which callees come first.
use Rattle.std.proofs.Common.{ℕ, zero, suc, ◌<◌, ◌≡◌, ◌∙◌, ◌==◌, sym, ap, refl, Bool, true, false, cond, List, [], ◌∷◌, length, take, get_or, subst, arith, length-take}
use Rattle.std.proofs.lemmas.Bool.{eqb-true}
use Rattle.forec_tree.specs.Pauses.{within}
use Rattle.forec_tree.specs.Faults.{is_in, Leads, at_once}
use Rattle.forec_tree.proofs.Fixed.{IsLocal}
use Rattle.forec_tree.proofs.Reach.{append}
use Rattle.loop_check.specs.Graph.{IsOrder}
use Rattle.loop_check.proofs.IndexLemmas.{split}
use Rattle.loop_check.proofs.Ordered.{place_of, is_in_at}

clash : {P : Type 0} (b : Bool) → b ≡ true → b ≡ false → P
clash b t f = absurd (let q : true ≡ false = sym t ∙ f in cc)

pub get_take : (xs : List ℕ) (k i : ℕ) → i < k → get_or (take k xs) i 0 ≡ get_or xs i 0
get_take [] zero i h = refl
get_take [] (suc k) i h = refl
get_take (x ∷ xs) zero i h = absurd (omega arith)
get_take (x ∷ xs) (suc k) zero h = refl
get_take (x ∷ xs) (suc k) (suc i) h = get_take xs k i (omega arith)

-- where one of the first numbers stands
pub front_at : (xs : List ℕ) (k g : ℕ) → is_in g (take k xs) ≡ true → (i : ℕ) × (i < k) × (i < length xs) × (get_or xs i 0 ≡ g)
front_at xs k g h =
    let a = place_of g (take k xs) h in
    let low = a.low in
    let n = length-take k xs in
    let small : a.place < k = omega (arith, low, n) in
    (a.place, small, omega (arith, low, n), sym (get_take xs k a.place small) ∙ a.is)

module _ {A : Type 0} (default : A) (step : (ℕ → A) → ℕ → A) (functions : List ℕ) (calls : ℕ → List ℕ) (order : List ℕ) (o : IsOrder functions calls order)
    (loc : IsLocal calls step) (outside : (g : ℕ) → is_in g functions ≡ false → (a : ℕ → A) → step a g ≡ default) where
  pub out : (d g : ℕ) → is_in g functions ≡ false → within default step d g ≡ default
  unfolding within
  out zero g h = refl
  out (suc d) g h = outside g h (within default step d)

  pub stable : (n k d e : ℕ) → k < n → k < length order → k < d → k < e → within default step d (get_or order k 0) ≡ within default step e (get_or order k 0)
  unfolding within
  stable zero k d e a b p q = absurd (omega arith)
  stable (suc n) k zero e a b p q = absurd (omega arith)
  stable (suc n) k (suc d) zero a b p q = absurd (omega arith)
  stable (suc n) k (suc d) (suc e) a b p q =
      let rest = stable n in
      loc.agrees (get_or order k 0) (within default step d) (within default step e) (λ g c.
      split (is_in g functions)
      (λ f.
      let i = front_at order k g (o.first k g b c f) in
      let low = i.1 in
      let same = rest i.0 d e (omega (arith, low)) i.2 (omega (arith, low)) (omega (arith, low)) in
      subst (λ x. within default step d x ≡ within default step e x) i.3 same)
      (λ f. out d g f ∙ sym (out e g f)))

  -- a table that is right at the front of the order gives the next value
  pub settle : (n k : ℕ) (a : ℕ → A) → k < length order → k < n → ((g : ℕ) → is_in g (take k order) ≡ true → a g ≡ within default step n g) →
      ((g : ℕ) → is_in g (take k order) ≡ false → a g ≡ default) → step a (get_or order k 0) ≡ within default step n (get_or order k 0)
  unfolding within
  settle n k a h l right rest =
      loc.agrees (get_or order k 0) a (within default step n) (λ g c.
      split (is_in g (take k order)) (λ t. right g t)
      (λ t. rest g t ∙ sym (out n g (split (is_in g functions) (λ f. clash (is_in g (take k order)) (o.first k g h c f) t) (λ f. f)))))
      ∙ stable (suc k) k (suc n) n (omega arith) h (omega arith) l

-- ---- where no function reaches itself, each stands in the order

-- what is left of a list
left_of : List ℕ → List ℕ → List ℕ
left_of order [] = []
left_of order (f ∷ fs) = cond (is_in f order) (left_of order fs) (f ∷ left_of order fs)

is_in_left : (order fs : List ℕ) (g : ℕ) → is_in g fs ≡ true → is_in g order ≡ false → is_in g (left_of order fs) ≡ true
unfolding left_of
is_in_left order [] g h n = h
is_in_left order (f ∷ fs) g h n =
    let rest = is_in_left order fs g in
    split (is_in f order)
    (λ o. ap (is_in g) (ap (λ b. cond b (left_of order fs) (f ∷ left_of order fs)) o) ∙
    split (f == g) (λ e. clash (is_in g order) (subst (λ x. is_in x order ≡ true) (eqb-true f g e) o) n)
    (λ e. rest (sym (ap (λ b. cond b true (is_in g fs)) e) ∙ h) n))
    (λ o. ap (is_in g) (ap (λ b. cond b (left_of order fs) (f ∷ left_of order fs)) o) ∙
    split (f == g) (λ e. ap (λ b. cond b true (is_in g (left_of order fs))) e)
    (λ e. ap (λ b. cond b true (is_in g (left_of order fs))) e ∙ rest (sym (ap (λ b. cond b true (is_in g fs)) e) ∙ h) n))

left_is : (order fs : List ℕ) (g : ℕ) → is_in g (left_of order fs) ≡ true → (is_in g fs ≡ true) × (is_in g order ≡ false)
unfolding left_of
left_is order [] g h = absurd (let q : false ≡ true = h in cc)
left_is order (f ∷ fs) g h =
    let rest = left_is order fs g in
    split (f == g)
    (λ e. (
      ap (λ b. cond b true (is_in g fs)) e,
      split (is_in f order)
          (λ o. (rest (sym (ap (is_in g) (ap (λ b. cond b (left_of order fs) (f ∷ left_of order fs)) o)) ∙ h)).1)
          (λ o. subst (λ x. is_in x order ≡ false) (eqb-true f g e) o),
    ))
    (λ e.
    let r =
    rest (split (is_in f order) (λ o. sym (ap (is_in g) (ap (λ b. cond b (left_of order fs) (f ∷ left_of order fs)) o)) ∙ h)
    (λ o. sym (ap (is_in g) (ap (λ b. cond b (left_of order fs) (f ∷ left_of order fs)) o) ∙ ap (λ b. cond b true (is_in g (left_of order fs))) e) ∙ h)) in
    (ap (λ b. cond b true (is_in g fs)) e ∙ r.0, r.1))

-- one to which a function of a list leads
pub record Onward (calls : ℕ → List ℕ) (xs : List ℕ) (f : ℕ) : Type 0 where
  pub next : ℕ
  pub stands : is_in next xs ≡ true
  pub leads : Leads calls f next

-- where each of a list leads to one of it, one leads to itself
pub circle : (calls : ℕ → List ℕ) (x : ℕ) (xs : List ℕ) → ((f : ℕ) → is_in f (x ∷ xs) ≡ true → Onward calls (x ∷ xs) f) → (f : ℕ) × Leads calls f f
circle calls x [] on =
    let n = on x (is_in_at (x ∷ []) 0 (omega arith)) in
    let e : x ≡ n.next = split (x == n.next) (λ q. eqb-true x n.next q) (λ q. clash (is_in n.next (x ∷ [])) n.stands (ap (λ b. cond b true false) q)) in
    (x, subst (λ g. Leads calls x g) (sym e) n.leads)
circle calls x (y ∷ ys) on =
    let rest = circle calls y ys in
    let n = on x (is_in_at (x ∷ y ∷ ys) 0 (omega arith)) in
    split (x == n.next) (λ q. (x, subst (λ g. Leads calls x g) (sym (eqb-true x n.next q)) n.leads))
    (λ q.
    let stays : is_in n.next (y ∷ ys) ≡ true = sym (ap (λ b. cond b true (is_in n.next (y ∷ ys))) q) ∙ n.stands in
    rest (λ f i.
    let m = on f (split (x == f) (λ e. ap (λ b. cond b true (is_in f (y ∷ ys))) e) (λ e. ap (λ b. cond b true (is_in f (y ∷ ys))) e ∙ i)) in
    split (x == m.next)
    (λ e. record { next = n.next; stands = stays; leads = append calls (subst (λ g. Leads calls f g) (sym (eqb-true x m.next e)) m.leads) n.leads })
    (λ e. record { next = m.next; stands = sym (ap (λ b. cond b true (is_in m.next (y ∷ ys))) e) ∙ m.stands; leads = m.leads })))

pub all_ordered : (functions : List ℕ) (calls : ℕ → List ℕ) (order : List ℕ) → IsOrder functions calls order → ((f : ℕ) → Leads calls f f → ⊥) →
    (f : ℕ) → is_in f functions ≡ true → is_in f order ≡ true
all_ordered functions calls order o free f h =
    split (is_in f order) (λ e. e)
    (λ e. pick (left_of order functions) (is_in_left order functions f h e) (λ g i.
    let l = left_is order functions g i in
    let s = o.stuck g l.0 l.1 in
    record { next = s.callee; stands = is_in_left order functions s.callee s.stands s.left; leads = at_once s.called }))
  where
    pick : (xs : List ℕ) → is_in f xs ≡ true → ((g : ℕ) → is_in g xs ≡ true → Onward calls xs g) → is_in f order ≡ true
    pick [] i on = absurd (let q : false ≡ true = i in cc)
    pick (x ∷ xs) i on = let c = circle calls x xs on in absurd (free c.0 c.1)
