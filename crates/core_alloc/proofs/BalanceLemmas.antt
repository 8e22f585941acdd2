-- Loads that grow by a thread at a time, and how even they stay.
use Rattle.std.proofs.Common.{◌≡◌, ℕ, zero, suc, ◌+◌, ◌*◌, ◌<◌, ◌≤◌, max, Bool, true, false, nat_lt, cond, List, [], ◌∷◌, length, All, replicate, sum, slice_index_or, slice_set, refl, sym, ap, ◌∙◌, arith, rules}
use Rattle.std.specs.List.{sum_by}
use Rattle.std.specs.List.Sorted.{IsPermutation}
use Rattle.std.proofs.Math.Nat.{mul-le-mul_left}
use Rattle.std.proofs.lemmas.List.{length-set, length-replicate, get_or-replicate, get_or_default}
use Rattle.std.proofs.lemmas.List.Elements.{All-set, All-cons, All-tail}
use Rattle.std.proofs.lemmas.List.Sums.{sum_by-set, sum_by-cons}
use Rattle.std.proofs.lemmas.List.Sorted.{sum_by-IsPermutation, All-permutation, length_permutation}
use Rattle.core_alloc.specs.declared.ranked.Ranked.{Ranked}
use Rattle.core_alloc.specs.Balance.{ranked_from, total_weight, heaviest, lightest_in, lightest, Balance, placed, placed_all, nothing_placed, balance_of, IsHeaviestFirst}

-- ---- the threads by number

pub ranked_length : (at : ℕ) (weights : List ℕ) → length (ranked_from at weights) ≡ length weights
ranked_length at [] = refl
ranked_length at (w ∷ ws) = ap suc (ranked_length (suc at) ws)

pub ranked_total : (at : ℕ) (weights : List ℕ) → total_weight (ranked_from at weights) ≡ sum weights
ranked_total at [] = refl
ranked_total at (w ∷ ws) =
    sum_by-cons (λ (r : Ranked). r.weight.0) (record { weight = record { 0 = w }; thread = at }) (ranked_from (suc at) ws) ∙ ap (λ n. w + n) (ranked_total (suc at) ws) ∙ sym (sum_by-cons (λ x. x) w ws)

ranked_low : (at n : ℕ) (weights : List ℕ) → at + length weights ≤ n → All (λ (r : Ranked). r.thread < n) (ranked_from at weights)
ranked_low at n [] h = λ k d low. absurd (omega (arith, low))
ranked_low at n (w ∷ ws) h = All-cons (λ (r : Ranked). r.thread < n) _ _ (omega (arith, h)) (ranked_low (suc at) n ws (omega (arith, h)))

ranked_light : (at m : ℕ) (weights : List ℕ) → heaviest weights ≤ m → All (λ (r : Ranked). r.weight.0 ≤ m) (ranked_from at weights)
ranked_light at m [] h = λ k d low. absurd (omega (arith, low))
ranked_light at m (w ∷ ws) h = All-cons (λ (r : Ranked). r.weight.0 ≤ m) _ _ (omega (arith, h)) (ranked_light (suc at) m ws (omega (arith, h)))

module _ (weights : List ℕ) (order : List Ranked) (h : IsHeaviestFirst weights order) where
  pub order_length : length order ≡ length weights
  order_length = length_permutation _ _ h.all ∙ ranked_length 0 weights

  pub order_total : total_weight order ≡ sum weights
  order_total = sum_by-IsPermutation (λ (r : Ranked). r.weight.0) _ _ h.all ∙ ranked_total 0 weights

  pub order_low : All (λ (r : Ranked). r.thread < length order) order
  order_low = λ k d low.
      let all = All-permutation (λ (r : Ranked). r.thread < length weights) _ _ h.all (ranked_low 0 (length weights) weights (omega arith)) in
      omega (arith, order_length, all k d low)

  order_light : All (λ (r : Ranked). r.weight.0 ≤ heaviest weights) order
  order_light = All-permutation (λ (r : Ranked). r.weight.0 ≤ heaviest weights) _ _ h.all (ranked_light 0 (heaviest weights) weights (omega arith))

-- ---- the least load is at most the average

one_of_both : (b : Bool) (x y n : ℕ) → x < n → y < n → cond b x y < n
one_of_both true x y n hx hy = hx
one_of_both false x y n hx hy = hy

lightest_low : (loads : List ℕ) (n : ℕ) → 0 < length loads → n ≤ length loads → lightest_in loads n < length loads
lightest_low loads zero some few = some
lightest_low loads (suc n) some few =
    one_of_both (nat_lt (slice_index_or loads n 0) (slice_index_or loads (lightest_in loads n) 0)) n (lightest_in loads n) (length loads) (omega (arith, few)) (lightest_low loads n some (omega (arith, few)))

by_last : (loads : List ℕ) (n k : ℕ) (b : Bool) → nat_lt (slice_index_or loads n 0) (slice_index_or loads (lightest_in loads n) 0) ≡ b → k < suc n →
    (k < n → slice_index_or loads (lightest_in loads n) 0 ≤ slice_index_or loads k 0) →
    slice_index_or loads (cond b n (lightest_in loads n)) 0 ≤ slice_index_or loads k 0
by_last loads n k b e low before = grind (arith, e, low, before)

lightest_least : (loads : List ℕ) (n k : ℕ) → k < n → slice_index_or loads (lightest_in loads n) 0 ≤ slice_index_or loads k 0
lightest_least loads zero k low = absurd (omega (arith, low))
lightest_least loads (suc n) k low =
    let before : k < n → slice_index_or loads (lightest_in loads n) 0 ≤ slice_index_or loads k 0 = λ h. lightest_least loads n k h in
    by_last loads n k (nat_lt (slice_index_or loads n 0) (slice_index_or loads (lightest_in loads n) 0)) refl low before

spread_suc : (n m : ℕ) → suc n * m ≡ m + n * m
spread_suc n m = omega arith

times_least : (m : ℕ) (xs : List ℕ) → All (λ x. m ≤ x) xs → length xs * m ≤ sum xs
times_least m [] h = omega arith
times_least m (x ∷ xs) h =
    let first : m ≤ x = h 0 0 (omega arith) in
    let rest : length xs * m ≤ sum xs = times_least m xs (All-tail (λ y. m ≤ y) x xs h) in
    omega (arith, first, rest, sum_by-cons (λ y. y) x xs, spread_suc (length xs) m)

-- the least load, at any default
all_least : (loads : List ℕ) (k d : ℕ) → k < length loads → slice_index_or loads (lightest loads) 0 ≤ slice_index_or loads k d
all_least loads k d low =
    let same : slice_index_or loads k d ≡ slice_index_or loads k 0 = get_or_default loads k d 0 low in
    rw same (lightest_least loads (length loads) k low)

spreads : (n a b : ℕ) → n * (a + b) ≡ n * a + n * b
spreads n a b = omega arith

-- ---- one thread more

module _ (n most : ℕ) where
  abbrev pub evenly : ℕ → ℕ → Type 0
  evenly all load = n * load ≤ all + n * most

  -- the lightest core takes a thread
  after_one : (b : Balance) (r : Ranked) → 0 < n → length b.loads ≡ n → r.weight.0 ≤ most → All (evenly (sum b.loads)) b.loads →
      (sum (placed r b).loads ≡ sum b.loads + r.weight.0) × All (evenly (sum (placed r b).loads)) (placed r b).loads
  after_one b r some count light even =
      let core = lightest b.loads in
      let least = slice_index_or b.loads core 0 in
      let low : core < length b.loads = lightest_low b.loads (length b.loads) (omega (arith, count, some)) (omega arith) in
      let grown : sum (placed r b).loads + least ≡ sum b.loads + (least + r.weight.0) = sum_by-set (λ x. x) b.loads core (least + r.weight.0) 0 low in
      let is : sum (placed r b).loads ≡ sum b.loads + r.weight.0 = omega (arith, grown) in
      let average : length b.loads * least ≤ sum b.loads = times_least least b.loads (λ k d h. all_least b.loads k d h) in
      let average' : n * least ≤ sum b.loads = rw (← count) average in
      let heavy : n * r.weight.0 ≤ n * most = mul-le-mul_left n light in
      let spread : n * (least + r.weight.0) ≡ n * least + n * r.weight.0 = spreads n least r.weight.0 in
      (is, All-set (evenly (sum (placed r b).loads)) b.loads core (least + r.weight.0) (omega (arith, spread, average', heavy, is)) (λ k d h. omega (arith, even k d h, is)))

  -- the rest of the threads is placed
  after_all : (order : List Ranked) (b : Balance) → 0 < n → length b.loads ≡ n → All (λ (r : Ranked). r.weight.0 ≤ most) order →
      All (evenly (sum b.loads)) b.loads → All (evenly (sum b.loads + total_weight order)) (placed_all order b).loads
  after_all [] b some count light even = λ k d h. omega (arith, even k d h)
  after_all (r ∷ rs) b some count light even =
      let one = after_one b r some count (light 0 r (omega arith)) even in
      let rest = after_all rs (placed r b) some (length-set b.loads _ _ ∙ count) (All-tail (λ (x : Ranked). x.weight.0 ≤ most) r rs light) one.1 in
      λ k d h. omega (arith, rest k d h, one.0, sum_by-cons (λ (x : Ranked). x.weight.0) r rs)

none_loaded : (n : ℕ) → sum (replicate n 0) ≡ 0
none_loaded zero = refl
none_loaded (suc n) = omega (arith, sum_by-cons (λ x. x) 0 (replicate n 0), none_loaded n)

none : (n most all k d : ℕ) → k < length {A = ℕ} (replicate n 0) → n * slice_index_or (replicate n 0) k d ≤ all + n * most
none n most all k d h = rw (get_or-replicate n k 0 d (omega (arith, h, length-replicate {A = ℕ} n 0))) (omega arith)

all_zero : (n most all : ℕ) → All (evenly n most all) (replicate n 0)
all_zero n most all = λ k d h. none n most all k d h

pub loads_stay_even : (weights : List ℕ) (order : List Ranked) (cores : ℕ) → 0 < cores → IsHeaviestFirst weights order → All (evenly cores (heaviest weights) (sum weights)) (balance_of order cores).loads
loads_stay_even weights order cores some h = λ k d low.
    let all = after_all cores (heaviest weights) order (nothing_placed cores (length order)) some (length-replicate cores 0) (order_light weights order h) (all_zero cores (heaviest weights) _) in
    omega (arith, all k d low, none_loaded cores, order_total weights order h)
