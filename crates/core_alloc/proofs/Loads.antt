-- What a core carries: the weights of the threads that were placed on it are those that were added to its load.
use Rattle.std.proofs.Common.{◌≡◌, ℕ, zero, suc, ◌+◌, ◌*◌, ◌<◌, ◌≤◌, ◌==◌, eqb-true, Bool, true, false, cond, List, [], ◌∷◌, length, All, replicate, sum, slice_index_or, slice_set, refl, sym, ap, ◌∙◌, arith, rules}
use Rattle.std.specs.List.{sum_by}
use Rattle.std.proofs.lemmas.Bool.{eqb-false}
use Rattle.std.proofs.lemmas.List.{length-set, length-replicate, get_or-replicate, get_or-set_same, get_or-set_other}
use Rattle.std.proofs.lemmas.List.Elements.{All-tail}
use Rattle.std.proofs.lemmas.List.Sums.{sum_by-cons}
use Rattle.std.proofs.lemmas.List.Sorted.{sum_by-IsPermutation}
use Rattle.core_alloc.specs.declared.ranked.Ranked.{Ranked}
use Rattle.core_alloc.specs.Balance.{ranked_from, heaviest, lightest, Balance, placed, placed_all, nothing_placed, balance_of, load_of, IsHeaviestFirst, IsEven}
use Rattle.core_alloc.proofs.BalanceLemmas.{order_length, order_low, loads_stay_even}

-- ---- no thread comes twice

abbrev one : ℕ → Ranked → ℕ
one t r = cond (r.thread == t) 1 0

abbrev times : ℕ → List Ranked → ℕ
times t order = sum_by (one t) order

unlike : (a t : ℕ) (b : Bool) → (a == t) ≡ b → (a ≡ t → ⊥) → b ≡ false
unlike a t true e h = absurd (h (eqb-true a t e))
unlike a t false e h = refl

differs : (a t : ℕ) (b : Bool) → (a == t) ≡ b → cond {A = ℕ} b 1 0 ≡ 0 → t ≡ a → ⊥
differs a t true e h = absurd (omega (arith, h))
differs a t false e h = λ same. eqb-false a t e (sym same)

own_thread : (t : ℕ) (b : Bool) → (t == t) ≡ b → b ≡ true
own_thread t true e = refl
own_thread t false e = absurd (eqb-false t t e refl)

none_below : (at t : ℕ) (weights : List ℕ) → t < at → times t (ranked_from at weights) ≡ 0
none_below at t [] h = refl
none_below at t (w ∷ ws) h =
    let r : Ranked = record { weight = record { 0 = w }; thread = at } in
    let head : one t r ≡ 0 = ap (λ b. cond {A = ℕ} b 1 0) (unlike at t (at == t) refl (λ e. absurd (omega (arith, h, e)))) in
    omega (arith, head, sum_by-cons (one t) r (ranked_from (suc at) ws), none_below (suc at) t ws (omega (arith, h)))

once_by : (at t w : ℕ) (ws : List ℕ) (b : Bool) → (at == t) ≡ b → times t (ranked_from (suc at) ws) ≤ 1 → cond b 1 0 + times t (ranked_from (suc at) ws) ≤ 1
once_by at t w ws true e h =
    let same : at ≡ t = eqb-true at t e in
    omega (arith, none_below (suc at) t ws (omega (arith, same)))
once_by at t w ws false e h = omega (arith, h)

once : (at t : ℕ) (weights : List ℕ) → times t (ranked_from at weights) ≤ 1
once at t [] = omega arith
once at t (w ∷ ws) =
    let r : Ranked = record { weight = record { 0 = w }; thread = at } in
    omega (arith, sum_by-cons (one t) r (ranked_from (suc at) ws), once_by at t w ws (at == t) refl (once (suc at) t ws))

-- ---- a thread that was placed stays there

kept : (rs : List Ranked) (b : Balance) (t : ℕ) → times t rs ≡ 0 → slice_index_or (placed_all rs b).places t 0 ≡ slice_index_or b.places t 0
kept [] b t h = refl
kept (r ∷ rs) b t h =
    let all = sum_by-cons (one t) r rs in
    let head : one t r ≡ 0 = omega (arith, all, h) in
    kept rs (placed r b) t (omega (arith, all, h)) ∙ get_or-set_other b.places r.thread t _ 0 (differs r.thread t (r.thread == t) refl head)

-- ---- loads

abbrev carried : List ℕ → ℕ → Ranked → ℕ
carried places core r = cond (slice_index_or places r.thread 0 == core) r.weight.0 0

grown_by : (loads : List ℕ) (core c w : ℕ) → c < length loads → (b : Bool) → (core == c) ≡ b →
    slice_index_or (slice_set loads core (slice_index_or loads core 0 + w)) c 0 ≡ slice_index_or loads c 0 + cond b w 0
grown_by loads core c w low true e =
    let same : core ≡ c = eqb-true core c e in
    rw same (get_or-set_same loads c (slice_index_or loads c 0 + w) 0 low)
grown_by loads core c w low false e = get_or-set_other loads core c _ 0 (λ same. eqb-false core c e (sym same)) ∙ omega arith

loads_length : (order : List Ranked) (b : Balance) → length (placed_all order b).loads ≡ length b.loads
loads_length [] b = refl
loads_length (r ∷ rs) b = loads_length rs (placed r b) ∙ length-set b.loads _ _

loaded : (order : List Ranked) (b : Balance) (c : ℕ) → c < length b.loads → ((t : ℕ) → times t order ≤ 1) → All (λ (r : Ranked). r.thread < length b.places) order →
    slice_index_or (placed_all order b).loads c 0 ≡ slice_index_or b.loads c 0 + sum_by (carried (placed_all order b).places c) order
loaded [] b c low all fits = omega arith
loaded (r ∷ rs) b c low all fits =
    let last = placed_all rs (placed r b) in
    let core = lightest b.loads in
    let own : one r.thread r ≡ 1 = ap (λ b. cond {A = ℕ} b 1 0) (own_thread r.thread (r.thread == r.thread) refl) in
    let gone : times r.thread rs ≡ 0 = omega (arith, own, all r.thread, sum_by-cons (one r.thread) r rs) in
    let here : slice_index_or last.places r.thread 0 ≡ core = kept rs (placed r b) r.thread gone ∙ get_or-set_same b.places r.thread core 0 (fits 0 r (omega arith)) in
    let grown : slice_index_or (placed r b).loads c 0 ≡ slice_index_or b.loads c 0 + cond (core == c) r.weight.0 0 = grown_by b.loads core c r.weight.0 low (core == c) refl in
    let fewer : (t : ℕ) → times t rs ≤ 1 = λ t. omega (arith, all t, sum_by-cons (one t) r rs) in
    let within : All (λ (x : Ranked). x.thread < length (placed r b).places) rs = λ k d h. omega (arith, All-tail (λ (x : Ranked). x.thread < length b.places) r rs fits k d h, length-set b.places r.thread core) in
    let rest = loaded rs (placed r b) c (omega (arith, low, length-set b.loads core (slice_index_or b.loads core 0 + r.weight.0))) fewer within in
    let head : carried last.places c r ≡ cond (core == c) r.weight.0 0 = ap (λ p. cond (p == c) r.weight.0 0) here in
    omega (arith, grown, rest, head, sum_by-cons (carried last.places c) r rs)

pub stays_even : (weights : List ℕ) (order : List Ranked) (cores : ℕ) → 0 < cores → IsHeaviestFirst weights order → IsEven weights cores (balance_of order cores).places
stays_even weights order cores some h = λ core low.
    let b = balance_of order cores in
    let start = nothing_placed cores (length order) in
    let first : core < length start.loads = omega (arith, low, length-replicate {A = ℕ} cores 0) in
    let each : (t : ℕ) → times t order ≤ 1 = λ t. omega (arith, once 0 t weights, sum_by-IsPermutation (one t) _ _ h.all) in
    let fits : All (λ (r : Ranked). r.thread < length start.places) order = λ k d n. omega (arith, order_low weights order h k d n, length-replicate {A = ℕ} (length order) 0) in
    let carries = loaded order start core first each fits in
    let even = loads_stay_even weights order cores some h core 0 (omega (arith, first, loads_length order start)) in
    let load : load_of weights b.places core ≡ slice_index_or b.loads core 0 = omega (arith, carries, get_or-replicate {A = ℕ} cores core 0 0 low, sum_by-IsPermutation (carried b.places core) _ _ h.all) in
    rw load even
