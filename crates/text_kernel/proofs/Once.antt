-- Each thread is a branch of at most one par: its number stands once among the branches of all bodies.
use Rattle.std.proofs.Common.{ℕ, zero, suc, ◌+◌, ◌<◌, ◌≤◌, ◌≡◌, ◌∙◌, ◌==◌, sym, ap, refl, Bool, true, false, cond, IsTrue, List, [], ◌∷◌, ◌++◌, map, length, arith}
use Rattle.std.proofs.lemmas.Bool.Decides.{nat_tests}
use Rattle.std.proofs.lemmas.List.{map-append}
use Rattle.forec_tree.specs.Terms.{Text}
use Rattle.forec_kernel.specs.Combining.{contains}
use Rattle.forec_kernel.specs.WellFormed.{pars_of, joined_lists, distinct}
use Rattle.text_kernel.specs.Lowering.{Made}
use Rattle.text_kernel.specs.Kernels.{kernel_of, root}
use Rattle.text_kernel.proofs.Grown.{Grown, nothing, both, fork, turned, Branching, branch, Row, no_row, more_row, Fork, lists}
use Rattle.text_kernel.proofs.Forks.{threads_grow, branch_threads, row_threads}
use Rattle.text_kernel.proofs.Placed.{root_grown}

-- how often a number stands in a list
abbrev times : ℕ → List ℕ → ℕ
times v [] = 0
times v (u ∷ us) = cond (u == v) 1 0 + times v us

times_append : (v : ℕ) (xs ys : List ℕ) → times v (xs ++ ys) ≡ times v xs + times v ys
times_append v [] ys = omega arith
times_append v (x ∷ xs) ys = let e = times_append v xs ys in omega (arith, e)

joined_append : (v : ℕ) (xs ys : List (List ℕ)) → times v (joined_lists (xs ++ ys)) ≡ times v (joined_lists xs) + times v (joined_lists ys)
joined_append v [] ys = omega arith
joined_append v (x ∷ xs) ys =
    let e = joined_append v xs ys in
    let a = times_append v x (joined_lists (xs ++ ys)) in
    let b = times_append v x (joined_lists xs) in
    omega (arith, e, a, b)

-- among the branches of some pars
abbrev in_forks : ℕ → List Fork → ℕ
in_forks v x = times v (joined_lists (lists x))

forks_append : (v : ℕ) (x y : List Fork) → in_forks v (x ++ y) ≡ in_forks v x + in_forks v y
forks_append v x y = ap (λ l. times v (joined_lists l)) (map-append (λ f. f.threads) x y) ∙ joined_append v (lists x) (lists y)

-- among the branches of the bodies of some threads
abbrev in_bodies : ℕ → List Made → ℕ
in_bodies v [] = 0
in_bodies v (m ∷ a) = times v (joined_lists (pars_of m.body)) + in_bodies v a

bodies_append : (v : ℕ) (a b : List Made) → in_bodies v (a ++ b) ≡ in_bodies v a + in_bodies v b
bodies_append v [] b = omega arith
bodies_append v (m ∷ a) b = let e = bodies_append v a b in omega (arith, e)

-- at most once, and only between two numbers
record Few (m m1 v n : ℕ) : Type 0 where
  once : n ≤ 1
  low : v < m → n ≡ 0
  high : m1 ≤ v → n ≡ 0

few_both : (m m1 m2 v n k s : ℕ) → m ≤ m1 → m1 ≤ m2 → s ≡ n + k → Few m m1 v n → Few m1 m2 v k → Few m m2 v s
few_both m m1 m2 v n k s a b e f g =
    record {
      once = pick (v < m1) (Rattle.std.proofs.lemmas.Bool.cases_lt v m1);
      low = λ l. (let x = f.low l in let y = g.low (omega arith) in omega (arith, x, y, e));
      high = λ l. (let x = f.high (omega arith) in let y = g.high l in omega (arith, x, y, e));
    }
  where
    pick : (P : Type 0) → Rattle.std.proofs.Common.◌⊎◌ (v < m1) (m1 ≤ v) → s ≤ 1
    pick P (Rattle.std.proofs.Common.inl l) = let y = g.low l in let o = f.once in omega (arith, y, o, e)
    pick P (Rattle.std.proofs.Common.inr l) = let x = f.high l in let o = g.once in omega (arith, x, o, e)

few_same : (m m1 v n k : ℕ) → n ≡ k → Few m m1 v n → Few m m1 v k
few_same m m1 v n k e f = record { once = omega (arith, e, f.once); low = λ l. sym e ∙ f.low l; high = λ l. sym e ∙ f.high l }

few_none : (m v : ℕ) → Few m m v 0
few_none m v = record { once = omega arith; low = λ l. refl; high = λ l. refl }

few_one : (m v : ℕ) → Few m (suc m) v (cond (m == v) 1 0)
few_one m v =
    record {
      once = elim (m == v) as (λ b. cond b 1 0 ≤ 1) [ true ↦ omega arith | false ↦ omega arith ];
      low = λ l. (let e : (m == v) ≡ false = grind (arith, nat_tests) in ap (λ b. cond b 1 0) e);
      high = λ l. (let e : (m == v) ≡ false = grind (arith, nat_tests) in ap (λ b. cond b 1 0) e);
    }

mutual
  few : {t m p m1 p1 : ℕ} {a : List Made} {x : List Fork} → (v : ℕ) → Grown t m p a x m1 p1 → Few m m1 v (in_forks v x + in_bodies v a)
  few {m = m} v nothing = few_none m v
  few {m = m} v (both {m1 = m1} {m2 = m2} {a = a} {b = b} {x = x} {y = y} g k) =
      let e = forks_append v x y in
      let d = bodies_append v a b in
      few_both m m1 m2 v (in_forks v x + in_bodies v a) (in_forks v y + in_bodies v b) (in_forks v (x ++ y) + in_bodies v (a ++ b))
      (omega (arith, threads_grow g)) (omega (arith, threads_grow k)) (omega (arith, e, d)) (few v g) (few v k)
  few {m = m} v (fork {m1 = m1} {m2 = m2} {a = a} {b = b} {us = us} g r) =
      let d = bodies_append v a b in
      let n = times_append v (m ∷ us) [] in
      few_both m m1 m2 v (cond (m == v) 1 0 + in_bodies v a) (times v us + in_bodies v b) (times v ((m ∷ us) ++ []) + in_bodies v (a ++ b))
      (omega (arith, branch_threads g)) (omega (arith, row_threads r)) (omega (arith, d, n)) (few_branch v g) (few_row v r)
  few {m = m} {m1 = m1} v (turned {a = a} x y g) =
      let e = forks_append v x y in
      let d = forks_append v y x in
      few_same m m1 v (in_forks v (x ++ y) + in_bodies v a) (in_forks v (y ++ x) + in_bodies v a) (omega (arith, e, d)) (few v g)

  few_branch : {t q m p m1 p1 : ℕ} {a : List Made} → (v : ℕ) → Branching t q m p a m1 p1 → Few m m1 v (cond (m == v) 1 0 + in_bodies v a)
  few_branch {m = m} {m1 = m1} v (branch {a = a} {x = x} made e d n f behind g) =
      let same : in_forks v x ≡ times v (joined_lists (pars_of made.body)) = ap (λ l. times v (joined_lists l)) f in
      few_both m (suc m) m1 v (cond (m == v) 1 0) (in_forks v x + in_bodies v a) (cond (m == v) 1 0 + (times v (joined_lists (pars_of made.body)) + in_bodies v a))
      (omega arith) (omega (arith, threads_grow g)) (omega (arith, same)) (few_one m v) (few v g)

  few_row : {t q m p m1 p1 : ℕ} {a : List Made} {us : List ℕ} → (v : ℕ) → Row t q m p a us m1 p1 → Few m m1 v (times v us + in_bodies v a)
  few_row {m = m} v no_row = few_none m v
  few_row {m = m} v (more_row {m1 = m1} {m2 = m2} {a = a} {b = b} {us = us} g r) =
      let d = bodies_append v a b in
      few_both m m1 m2 v (cond (m == v) 1 0 + in_bodies v a) (times v us + in_bodies v b) (times v (m ∷ us) + in_bodies v (a ++ b))
      (omega (arith, branch_threads g)) (omega (arith, row_threads r)) (omega (arith, d)) (few_branch v g) (few_row v r)

-- ---- a list in which each number stands at most once

contains_times : (v : ℕ) (xs : List ℕ) → times v xs ≡ 0 → contains v xs ≡ false
contains_times v [] h = refl
contains_times v (x ∷ xs) h = pick (x == v) refl (contains_times v xs)
  where
    pick : (b : Bool) → (x == v) ≡ b → (times v xs ≡ 0 → contains v xs ≡ false) → cond (x == v) true (contains v xs) ≡ false
    pick true e k = let bad = ap (λ b. cond b 1 0 + times v xs) e in absurd (omega (arith, bad, h))
    pick false e k = let same = ap (λ b. cond b 1 0 + times v xs) e in ap (λ b. cond b true (contains v xs)) e ∙ k (omega (arith, same, h))

once_distinct : (xs : List ℕ) → ((v : ℕ) → times v xs ≤ 1) → distinct xs ≡ true
once_distinct [] h = refl
once_distinct (x ∷ xs) h =
    let same : (x == x) ≡ true = grind (arith, nat_tests) in
    let here_ = ap (λ b. cond b 1 0 + times x xs) same in
    let first = h x in
    ap (λ b. cond b false (distinct xs)) (contains_times x xs (omega (arith, here_, first)))
    ∙ once_distinct xs (λ v. (let l = h v in omega (arith, l)))

bodies_of : (v : ℕ) (a : List Made) → times v (joined_lists (map joined_lists (map pars_of (map (λ m. m.body) a)))) ≡ in_bodies v a
bodies_of v [] = refl
bodies_of v (m ∷ a) =
    let e = bodies_of v a in
    let d = times_append v (joined_lists (pars_of m.body)) (joined_lists (map joined_lists (map pars_of (map (λ m. m.body) a)))) in
    omega (arith, e, d)

module _ (text : Text) (names : List (List ℕ)) where
  pub once : IsTrue (distinct (joined_lists (map joined_lists (map pars_of (kernel_of text names).threads))))
  unfolding kernel_of
  once =
      let g = root_grown text names in
      once_distinct (joined_lists (pars_of (root text names).stmt) ++ joined_lists (map joined_lists (map pars_of (map (λ m. m.body) (root text names).made)))) (λ v.
      (let f = few v g.grown in
      let o = f.once in
      let b = bodies_of v (root text names).made in
      let d = times_append v (joined_lists (pars_of (root text names).stmt)) (joined_lists (map joined_lists (map pars_of (map (λ m. m.body) (root text names).made)))) in
      let r : in_forks v g.forks ≡ times v (joined_lists (pars_of (root text names).stmt)) = ap (λ l. times v (joined_lists l)) g.are in
      omega (arith, o, b, d, r)))
