-- What a thread names, its parent's text and the threads below it name: so a thread's `uses` are among its parent's.
use Rattle.std.proofs.Common.{ℕ, zero, suc, ◌+◌, ◌<◌, ◌≡◌, ◌∙◌, sym, ap, refl, Bool, true, false, cond, ◌==◌, List, [], ◌∷◌, ◌++◌, append_assoc, length, length-append, arith}
use Rattle.std.proofs.lemmas.Bool.Decides.{nat_tests}
use Rattle.std.proofs.lemmas.Bool.{and_from}
use Rattle.std.proofs.lemmas.List.{get_or-append-add}
use Rattle.forec_tree.specs.Faults.{is_in}
use Rattle.forec_tree.proofs.Agrees.{in_left, in_right}
use Rattle.forec_kernel.specs.Combining.{contains}
use Rattle.forec_kernel.specs.WellFormed.{all_in}
use Rattle.text_kernel.specs.Lowering.{Made, vars_of, vars_made}
use Rattle.text_kernel.specs.Kernels.{filter_in}
use Rattle.text_kernel.proofs.Grown.{Grown, nothing, both, fork, turned, Branching, branch, Row, no_row, more_row, Fork}
use Rattle.text_kernel.proofs.Forks.{threads_grow, branch_threads, blank_made, at, SplitIndex, left, right, place_of}

-- one list of names is in another one
pub record Within (xs ys : List ℕ) : Type 0 where
  pub all : (v : ℕ) → is_in v xs ≡ true → is_in v ys ≡ true

pub within_self : (xs : List ℕ) → Within xs xs
within_self xs = record { all = λ v h. h }

pub within_trans : (xs ys zs : List ℕ) → Within xs ys → Within ys zs → Within xs zs
within_trans xs ys zs w z = record { all = λ v h. z.all v (w.all v h) }

pub within_left : (xs ys : List ℕ) → Within xs (xs ++ ys)
within_left xs ys = record { all = λ v h. in_left v xs ys h }

pub within_right : (xs ys : List ℕ) → Within ys (xs ++ ys)
within_right xs ys = record { all = λ v h. in_right v xs ys h }

pub vars_append : (a b : List Made) → vars_made (a ++ b) ≡ vars_made a ++ vars_made b
vars_append [] b = refl
vars_append (m ∷ a) b = ap (λ l. vars_of m.body ++ l) (vars_append a b) ∙ sym (append_assoc (vars_of m.body) (vars_made a) (vars_made b))

vars_left : (a b : List Made) → Within (vars_made a) (vars_made (a ++ b))
vars_left a b = record { all = λ v h. ap (is_in v) (vars_append a b) ∙ in_left v (vars_made a) (vars_made b) h }

vars_right : (a b : List Made) → Within (vars_made b) (vars_made (a ++ b))
vars_right a b = record { all = λ v h. ap (is_in v) (vars_append a b) ∙ in_right v (vars_made a) (vars_made b) h }

-- what one of the added threads names is named by its parent, which is the owner or one of them
pub data Covered (t m : ℕ) (a : List Made) (i : ℕ) : Type 0 where
  by_owner : (at a i).parent ≡ t → Within (at a i).named (vars_made a) → Covered t m a i
  by_other : (j : ℕ) → j < length a → (at a i).parent ≡ m + j → Within (at a i).named (at a j).named → Covered t m a i

same_named : (x y : Made) (zs : List ℕ) → x ≡ y → Within y.named zs → Within x.named zs
same_named x y zs e w = record { all = λ v h. w.all v (ap (λ z. is_in v z.named) (sym e) ∙ h) }

to_named : (xs : List ℕ) (x y : Made) → x ≡ y → Within xs y.named → Within xs x.named
to_named xs x y e w = record { all = λ v h. ap (λ z. is_in v z.named) e ∙ w.all v h }

at_left : (a b : List Made) (j : ℕ) → j < length a → at (a ++ b) j ≡ at a j
at_left [] b j l = absurd (omega arith)
at_left (c ∷ a) b zero l = refl
at_left (c ∷ a) b (suc j) l = at_left a b j (omega arith)

at_right : (a b : List Made) (j : ℕ) → at (a ++ b) (length a + j) ≡ at b j
at_right a b j = get_or-append-add a b j blank_made

covered_left : (t m : ℕ) (a b : List Made) (i : ℕ) → i < length a → Covered t m a i → Covered t m (a ++ b) i
covered_left t m a b i l (by_owner e w) =
    let d = at_left a b i l in
    by_owner (ap (λ x. x.parent) d ∙ e) (same_named (at (a ++ b) i) (at a i) (vars_made (a ++ b)) d (within_trans (at a i).named (vars_made a) (vars_made (a ++ b)) w (vars_left a b)))
covered_left t m a b i l (by_other j k e w) =
    let d = at_left a b i l in
    by_other j (let long = length-append a b in omega arith) (ap (λ x. x.parent) d ∙ e)
    (same_named (at (a ++ b) i) (at a i) (at (a ++ b) j).named d (to_named (at a i).named (at (a ++ b) j) (at a j) (at_left a b j k) w))

covered_right : (t m m1 : ℕ) (a b : List Made) (i j : ℕ) → m1 ≡ m + length a → i ≡ length a + j → Covered t m1 b j → Covered t m (a ++ b) i
covered_right t m m1 a b i j n h (by_owner e w) =
    let d : at (a ++ b) i ≡ at b j = ap (at (a ++ b)) h ∙ at_right a b j in
    by_owner (ap (λ x. x.parent) d ∙ e) (same_named (at (a ++ b) i) (at b j) (vars_made (a ++ b)) d (within_trans (at b j).named (vars_made b) (vars_made (a ++ b)) w (vars_right a b)))
covered_right t m m1 a b i j n h (by_other u k e w) =
    let d : at (a ++ b) i ≡ at b j = ap (at (a ++ b)) h ∙ at_right a b j in
    by_other (length a + u) (let long = length-append a b in omega arith) (ap (λ x. x.parent) d ∙ (e ∙ (omega (arith, n))))
    (same_named (at (a ++ b) i) (at b j) (at (a ++ b) (length a + u)).named d (to_named (at b j).named (at (a ++ b) (length a + u)) (at b u) (at_right a b u) w))

abbrev pub AllCovered : (t m : ℕ) (a : List Made) → Type 0
AllCovered t m a = (i : ℕ) → i < length a → Covered t m a i

covered_at : (t m m1 : ℕ) (a b : List Made) (i : ℕ) → m1 ≡ m + length a → AllCovered t m a → AllCovered t m1 b → SplitIndex a b i → Covered t m (a ++ b) i
covered_at t m m1 a b i n h k (left l d) = covered_left t m a b i l (h i l)
covered_at t m m1 a b i n h k (right j w l d) = covered_right t m m1 a b i j n w (k j l)

covered_append : (t m m1 : ℕ) (a b : List Made) → m1 ≡ m + length a → AllCovered t m a → AllCovered t m1 b → AllCovered t m (a ++ b)
covered_append t m m1 a b n h k = λ i l. covered_at t m m1 a b i n h k (place_of a b i l)

-- under the thread that begins a branch
under_first : (t m : ℕ) (made : Made) (a : List Made) (i : ℕ) → made.named ≡ vars_of made.body ++ vars_made a → Covered m (suc m) a i → Covered t m (made ∷ a) (suc i)
under_first t m made a i n (by_owner e w) =
    by_other 0 (omega arith) (e ∙ omega arith)
    (record { all = λ v h. ap (is_in v) n ∙ in_right v (vars_of made.body) (vars_made a) (w.all v h) })
under_first t m made a i n (by_other j k e w) = by_other (suc j) (omega arith) (e ∙ omega arith) w

first_or_under : (t m : ℕ) (made : Made) (a : List Made) → made.parent ≡ t → made.named ≡ vars_of made.body ++ vars_made a → AllCovered m (suc m) a → AllCovered t m (made ∷ a)
first_or_under t m made a e n h zero l = by_owner e (record { all = λ v k. ap (is_in v) (sym n) ∙ k })
first_or_under t m made a e n h (suc i) l = under_first t m made a i n (h i (omega arith))

mutual
  pub covered : {t m p m1 p1 : ℕ} {a : List Made} {x : List Fork} → Grown t m p a x m1 p1 → AllCovered t m a
  covered nothing = λ i l. absurd (omega arith)
  covered {t = t} {m = m} (both {m1 = m1} {a = a} {b = b} g k) = covered_append t m m1 a b (threads_grow g) (covered g) (covered k)
  covered {t = t} {m = m} (fork {m1 = m1} {a = a} {b = b} g r) = covered_append t m m1 a b (branch_threads g) (branch_covered g) (row_covered r)
  covered (turned x y g) = covered g

  branch_covered : {t q m p m1 p1 : ℕ} {a : List Made} → Branching t q m p a m1 p1 → AllCovered t m a
  branch_covered {t = t} {m = m} (branch {a = a} made e d n f behind g) = first_or_under t m made a e n (covered g)

  row_covered : {t q m p m1 p1 : ℕ} {a : List Made} {us : List ℕ} → Row t q m p a us m1 p1 → AllCovered t m a
  row_covered no_row = λ i l. absurd (omega arith)
  row_covered {t = t} {m = m} (more_row {m1 = m1} {a = a} {b = b} g r) = covered_append t m m1 a b (branch_threads g) (branch_covered g) (row_covered r)

-- ---- the `uses` of two threads

contains_more : (v u : ℕ) (list : List ℕ) → contains v list ≡ true → contains v (u ∷ list) ≡ true
contains_more v u list h = ap (cond (u == v) true) h ∙ (elim (u == v) as (λ b. cond b true true ≡ true) [ true ↦ refl | false ↦ refl ])

contains_self : (v : ℕ) (list : List ℕ) → contains v (v ∷ list) ≡ true
contains_self v list = let e : (v == v) ≡ true = grind (arith, nat_tests) in ap (λ b. cond b true (contains v list)) e

all_more : (u : ℕ) (xs ys : List ℕ) → all_in xs ys ≡ true → all_in xs (u ∷ ys) ≡ true
all_more u [] ys h = refl
all_more u (x ∷ xs) ys h =
    let parts = Rattle.std.proofs.lemmas.Bool.and_parts (contains x ys) (all_in xs ys) h in
    and_from (contains x (u ∷ ys)) (all_in xs (u ∷ ys)) (contains_more x u ys parts.0) (all_more u xs ys parts.1)

pub uses_within : (xs ys list : List ℕ) → Within xs ys → all_in (filter_in xs list) (filter_in ys list) ≡ true
uses_within xs ys [] w = refl
uses_within xs ys (v ∷ list) w = pick (is_in v xs) (is_in v ys) refl refl (uses_within xs ys list w)
  where
    pick : (b c : Bool) → is_in v xs ≡ b → is_in v ys ≡ c → all_in (filter_in xs list) (filter_in ys list) ≡ true →
        all_in (cond (is_in v xs) (v ∷ filter_in xs list) (filter_in xs list)) (cond (is_in v ys) (v ∷ filter_in ys list) (filter_in ys list)) ≡ true
    pick true true e d i = rw (e, d) (and_from _ _ (contains_self v (filter_in ys list)) (all_more v (filter_in xs list) (filter_in ys list) i))
    pick true false e d i = let bad : false ≡ true = sym d ∙ w.all v e in cc
    pick false true e d i = rw (e, d) (all_more v (filter_in xs list) (filter_in ys list) i)
    pick false false e d i = rw (e, d) i

pub uses_of_all : (xs list : List ℕ) → all_in (filter_in xs list) list ≡ true
uses_of_all xs [] = refl
uses_of_all xs (v ∷ list) = pick (is_in v xs) refl (uses_of_all xs list)
  where
    pick : (b : Bool) → is_in v xs ≡ b → all_in (filter_in xs list) list ≡ true → all_in (cond (is_in v xs) (v ∷ filter_in xs list) (filter_in xs list)) (v ∷ list) ≡ true
    pick true e i = rw e (and_from _ _ (contains_self v list) (all_more v (filter_in xs list) list i))
    pick false e i = rw e (all_more v (filter_in xs list) list i)
