-- Threads are put into order, and the order is the only one.
use Rattle.std.proofs.Common.{◌≡◌, ℕ, zero, suc, ◌+◌, cond, Bool, true, false, List, [], ◌∷◌, get_or, refl, sym, ap, ◌∙◌, arith}
use Rattle.std.specs.List.{sum_by}
use Rattle.std.specs.List.Sorted.{IsPermutation, IsSortedBy}
use Rattle.std.proofs.lemmas.Bool.Decides.{nat_tests}
use Rattle.std.proofs.lemmas.List.Sums.{sum_by-cons}
use Rattle.std.proofs.lemmas.List.Sorted.{IsPermutation-refl, IsPermutation-trans, IsPermutation-cons, IsPermutation-insert, sum_by-IsPermutation}
use Rattle.core_alloc.specs.declared.ranked.Ranked.{Ranked}
use Rattle.core_alloc.specs.Balance.{ranked_from, comes_before, IsHeaviestFirst}

-- ---- the order of two threads

one_way : (x y : Ranked) → comes_before x y ≡ true → comes_before y x ≡ false
one_way x y e = grind (arith, nat_tests, e)

chain : (x y z : Ranked) → comes_before x y ≡ false → comes_before y z ≡ false → comes_before x z ≡ false
chain x y z e f = grind (arith, nat_tests, e, f)

self : (x : Ranked) → comes_before x x ≡ false
self x = grind (arith, nat_tests)

same_weight : (x y : Ranked) → comes_before x y ≡ false → comes_before y x ≡ false → x.weight.0 ≡ y.weight.0
same_weight x y e f = grind (arith, nat_tests, e, f)

same_thread : (x y : Ranked) → comes_before x y ≡ false → comes_before y x ≡ false → x.thread ≡ y.thread
same_thread x y e f = grind (arith, nat_tests, e, f)

same : (x y : Ranked) → comes_before x y ≡ false → comes_before y x ≡ false → x ≡ y
same x y e f = λ i. record { weight = record { 0 = same_weight x y e f i }; thread = same_thread x y e f i }

-- ---- lists in order: none comes before the first, and so on

abbrev None_before : Ranked → List Ranked → Type 0
None_before x [] = Unit {0}
None_before x (y ∷ ys) = (comes_before y x ≡ false) × None_before x ys

abbrev pub Ascends : List Ranked → Type 0
Ascends [] = Unit {0}
Ascends (x ∷ xs) = None_before x xs × Ascends xs

lower : (x y : Ranked) (ys : List Ranked) → comes_before y x ≡ false → None_before y ys → None_before x ys
lower x y [] e h = tt
lower x y (z ∷ zs) e h = (chain z y x h.0 e, lower x y zs e h.1)

get-cons : (x : Ranked) (xs : List Ranked) (k : ℕ) (d : Ranked) → get_or (x ∷ xs) (k + 1) d ≡ get_or xs k d
get-cons x xs k d = let e : k + 1 ≡ suc k = omega arith in rw e refl

sorted_tail : (x : Ranked) (xs : List Ranked) → IsSortedBy comes_before (x ∷ xs) → IsSortedBy comes_before xs
sorted_tail x xs up k d a b = rw (get-cons x xs (k + 1) d, get-cons x xs k d) at (up (k + 1) d (omega arith) (omega (arith, b)))

pub ascends : (xs : List Ranked) → IsSortedBy comes_before xs → Ascends xs
ascends [] up = tt
ascends (x ∷ []) up = (tt, tt)
ascends (x ∷ y ∷ ys) up =
    let rest = ascends (y ∷ ys) (sorted_tail x (y ∷ ys) up) in
    let first : comes_before y x ≡ false = up 0 x (omega arith) (omega arith) in
    ((first, lower x y ys first rest.0), rest)

pub sorted : (xs : List Ranked) → Ascends xs → IsSortedBy comes_before xs
sorted [] h k d a b = absurd (omega (arith, b))
sorted (x ∷ []) h k d a b = absurd (omega (arith, b))
sorted (x ∷ y ∷ ys) h zero d a b = h.0.0
sorted (x ∷ y ∷ ys) h (suc k) d a b =
    let e : suc k + 1 ≡ suc (k + 1) = omega arith in
    rw e (sorted (y ∷ ys) h.1 k d (omega arith) (omega (arith, b)))

-- ---- one order

-- how many come before x
abbrev before : Ranked → Ranked → ℕ
before x y = cond (comes_before y x) 1 0

none_counted : (x : Ranked) (ys : List Ranked) → None_before x ys → sum_by (before x) ys ≡ 0
none_counted x [] h = refl
none_counted x (y ∷ ys) h = sum_by-cons (before x) y ys ∙ rw (h.0, none_counted x ys h.1) refl

first_counted : (x : Ranked) (ys : List Ranked) → None_before x ys → sum_by (before x) (x ∷ ys) ≡ 0
first_counted x ys h = none_counted x (x ∷ ys) (self x, h)

-- where none of the list is counted, its first isn't
not_before : (x y : Ranked) (ys : List Ranked) (b : Bool) → comes_before y x ≡ b → sum_by (before x) (y ∷ ys) ≡ 0 → comes_before y x ≡ false
not_before x y ys false e h = e
not_before x y ys true e h = absurd (let one : before x y ≡ 1 = rw e refl in omega (arith, one, h, sum_by-cons (before x) y ys))

abbrev AreAlike : List Ranked → List Ranked → Type 0
AreAlike xs ys = (f : Ranked → ℕ) → sum_by f xs ≡ sum_by f ys

rest_alike : (x y : Ranked) (xs ys : List Ranked) → x ≡ y → AreAlike (x ∷ xs) (y ∷ ys) → AreAlike xs ys
rest_alike x y xs ys e h f =
    let firsts : f x ≡ f y = ap f e in
    omega (arith, firsts, h f, sum_by-cons f x xs, sum_by-cons f y ys)

pub one_order : (xs ys : List Ranked) → Ascends xs → Ascends ys → AreAlike xs ys → xs ≡ ys
one_order [] [] a b h = refl
one_order [] (y ∷ ys) a b h = absurd (omega (arith, h (λ r. 1), sum_by-cons (λ (r : Ranked). 1) y ys))
one_order (x ∷ xs) [] a b h = absurd (omega (arith, h (λ r. 1), sum_by-cons (λ (r : Ranked). 1) x xs))
one_order (x ∷ xs) (y ∷ ys) a b h =
    let below = not_before x y ys (comes_before y x) refl (sym (h (before x)) ∙ first_counted x xs a.0) in
    let above = not_before y x xs (comes_before x y) refl (h (before y) ∙ first_counted y ys b.0) in
    let is : x ≡ y = same x y above below in
    let rest : xs ≡ ys = one_order xs ys a.1 b.1 (rest_alike x y xs ys is h) in
    λ i. is i ∷ rest i

pub one_heaviest_first : (weights : List ℕ) (a b : List Ranked) → IsHeaviestFirst weights a → IsHeaviestFirst weights b → a ≡ b
one_heaviest_first weights a b h g =
    one_order a b (ascends a h.sorted) (ascends b g.sorted) (λ f. sum_by-IsPermutation f _ _ h.all ∙ sym (sum_by-IsPermutation f _ _ g.all))

-- ---- some order

abbrev put : Ranked → List Ranked → List Ranked
put x [] = x ∷ []
put x (y ∷ ys) = cond (comes_before y x) (y ∷ put x ys) (x ∷ y ∷ ys)

abbrev in_order : List Ranked → List Ranked
in_order [] = []
in_order (x ∷ xs) = put x (in_order xs)

put_moves : (x : Ranked) (ys : List Ranked) → IsPermutation (x ∷ ys) (put x ys)
put_moves x [] = IsPermutation-refl _
put_moves x (y ∷ ys) = by (comes_before y x) (put_moves x ys)
  where
    by : (b : Bool) → IsPermutation (x ∷ ys) (put x ys) → IsPermutation (x ∷ y ∷ ys) (cond b (y ∷ put x ys) (x ∷ y ∷ ys))
    by false rest = IsPermutation-refl _
    by true rest = IsPermutation-trans _ _ _ (IsPermutation-insert (y ∷ ys) 1 x) (IsPermutation-cons y _ _ rest)

moves : (xs : List Ranked) → IsPermutation xs (in_order xs)
moves [] = IsPermutation-refl _
moves (x ∷ xs) = IsPermutation-trans _ _ _ (IsPermutation-cons x _ _ (moves xs)) (put_moves x (in_order xs))

none_put : (y x : Ranked) (ys : List Ranked) → comes_before x y ≡ false → None_before y ys → None_before y (put x ys)
none_put y x [] e h = (e, tt)
none_put y x (z ∷ zs) e h = by (comes_before z x) (none_put y x zs e h.1)
  where
    by : (b : Bool) → None_before y (put x zs) → None_before y (cond b (z ∷ put x zs) (x ∷ z ∷ zs))
    by false rest = (e, h)
    by true rest = (h.0, rest)

put_ascends : (x : Ranked) (ys : List Ranked) → Ascends ys → Ascends (put x ys)
put_ascends x [] h = (tt, tt)
put_ascends x (y ∷ ys) h = by (comes_before y x) refl (put_ascends x ys h.1)
  where
    by : (b : Bool) → comes_before y x ≡ b → Ascends (put x ys) → Ascends (cond b (y ∷ put x ys) (x ∷ y ∷ ys))
    by false e rest = ((e, lower x y ys e h.0), h)
    by true e rest = (none_put y x ys (one_way y x e) h.0, rest)

in_order_ascends : (xs : List Ranked) → Ascends (in_order xs)
in_order_ascends [] = tt
in_order_ascends (x ∷ xs) = put_ascends x (in_order xs) (in_order_ascends xs)

pub some_heaviest_first : (weights : List ℕ) → (order : List Ranked) × IsHeaviestFirst weights order
some_heaviest_first weights =
    let list = ranked_from 0 weights in
    (in_order list, record { all = moves list; sorted = sorted (in_order list) (in_order_ascends list) })
