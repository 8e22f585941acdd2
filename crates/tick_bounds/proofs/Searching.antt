-- Whether an ascending list of variables has one, by a binary search; the variables of a thread ascend.
use Rattle.std.proofs.Common.{ℕ, zero, suc, ◌<◌, ◌≤◌, ◌≡◌, ◌==◌, nat_lt, Bool, true, false, cond, Result, Ok, Err, List, [], ◌∷◌, length, map, get_or, refl, ap, sym, arith}
use Rattle.std.proofs.lemmas.Bool.{and_parts}
use Rattle.std.proofs.lemmas.Bool.Decides.{nat_tests}
use Rattle.std.proofs.lemmas.List.Sorted.{searched}
use Rattle.std.specs.Prelude.{is_ok, MatchResult}
use Rattle.std.specs.Ordering.{nat_cmp}
use Rattle.std.specs.List.Sorted.{IsBinarySearchResult}
use Rattle.forec_kernel.specs.declared.shape.ThreadShape.{ThreadShape}
use Rattle.forec_kernel.specs.Shapes.{PlainKernel, PlainThread, plain_thread}
use Rattle.forec_kernel.specs.Texts.{uses_in, uses_of}
use Rattle.forec_kernel.specs.Combining.{contains}
use Rattle.forec_kernel.specs.WellFormed.{WellFormed, ascends}

-- ---- the variables of a thread

no_uses : (ss : List PlainThread) (t : ℕ) → length ss ≤ t → uses_in ss t ≡ []
no_uses [] t h = refl
no_uses (s ∷ ss) zero h = absurd (omega arith)
no_uses (s ∷ ss) (suc t) h = no_uses ss t (omega arith)

pub uses_ascend : (k : PlainKernel) → WellFormed k → (t : ℕ) → ascends (uses_of k t) ≡ true
uses_ascend k wf t = pick (nat_lt t (length k.threads)) refl
  where
    pick : (x : Bool) → nat_lt t (length k.threads) ≡ x → ascends (uses_of k t) ≡ true
    pick true e = (wf.each_thread t (grind (arith, nat_tests))).uses
    pick false e =
        let bodies = wf.bodies in
        let past : length k.shape.threads ≤ t = grind (arith, nat_tests) in
        ap ascends (no_uses k.shape.threads t past)

pub uses_found : (xs : List ThreadShape) (t : ℕ) (x : ThreadShape) → t < length xs → x ≡ get_or xs t x → x.uses.items ≡ uses_in (map plain_thread xs) t
uses_found [] t x l e = absurd (omega arith)
uses_found (y ∷ ys) zero x l e = ap (λ (s : ThreadShape). s.uses.items) e
uses_found (y ∷ ys) (suc t) x l e = uses_found ys t x (omega arith) e

pub uses_missing : (xs : List ThreadShape) (t : ℕ) → length xs ≤ t → [] ≡ uses_in (map plain_thread xs) t
uses_missing [] t l = refl
uses_missing (y ∷ ys) zero l = absurd (omega arith)
uses_missing (y ∷ ys) (suc t) l = uses_missing ys t (omega arith)

-- ---- ascending numbers from one on

abbrev Sorted : ℕ → List ℕ → Type 0
Sorted from [] = Unit {0}
Sorted from (u ∷ us) = (from ≤ u) × Sorted (suc u) us

abbrev Begins : ℕ → List ℕ → Type 0
Begins from [] = Unit {0}
Begins from (u ∷ us) = from ≤ u

sorted : (from : ℕ) (us : List ℕ) → Begins from us → ascends us ≡ true → Sorted from us
sorted from [] h e = tt
sorted from (a ∷ []) h e = (h, tt)
sorted from (a ∷ b ∷ rest) h e =
    let both = and_parts (nat_lt a b) (ascends (b ∷ rest)) e in
    let less : suc a ≤ b = let x = both.0 in grind (arith, nat_tests) in
    (h, sorted (suc a) (b ∷ rest) less both.1)

begins : (us : List ℕ) → Begins 0 us
begins [] = tt
begins (u ∷ us) = omega arith

above : (from : ℕ) (us : List ℕ) → Sorted from us → (j : ℕ) → j < length us → from ≤ get_or us j 0
above from [] s j l = absurd (omega arith)
above from (u ∷ us) s zero l = s.0
above from (u ∷ us) s (suc j) l = let first = s.0 in let rest = above (suc u) us s.1 j (omega arith) in omega arith

rises : (from : ℕ) (us : List ℕ) → Sorted from us → (i j : ℕ) → i ≤ j → j < length us → get_or us i 0 ≤ get_or us j 0
rises from [] s i j h l = absurd (omega arith)
rises from (u ∷ us) s zero zero h l = omega arith
rises from (u ∷ us) s zero (suc j) h l = let rest = above (suc u) us s.1 j (omega arith) in omega arith
rises from (u ∷ us) s (suc i) zero h l = absurd (omega arith)
rises from (u ∷ us) s (suc i) (suc j) h l = rises (suc u) us s.1 i j (omega arith) (omega arith)

-- ---- searching

pub found : (us : List ℕ) (i v : ℕ) → i < length us → get_or us i 0 ≡ v → contains v us ≡ true
found [] i v l e = absurd (omega arith)
found (u ∷ us) zero v l e = pick (u == v) (grind (arith, nat_tests))
  where
    pick : (x : Bool) → x ≡ true → cond x true (contains v us) ≡ true
    pick true h = refl
    pick false h = cc
found (u ∷ us) (suc i) v l e = pick (u == v) (found us i v (omega arith) e)
  where
    pick : (x : Bool) → contains v us ≡ true → cond x true (contains v us) ≡ true
    pick true h = refl
    pick false h = h

missing : (us : List ℕ) (v : ℕ) → ((i : ℕ) → i < length us → get_or us i 0 ≡ v → ⊥) → contains v us ≡ false
missing [] v h = refl
missing (u ∷ us) v h = pick (u == v) refl (missing us v (λ i l. h (suc i) (omega arith)))
  where
    pick : (x : Bool) → (u == v) ≡ x → contains v us ≡ false → cond x true (contains v us) ≡ false
    pick true e r = absurd (h 0 (omega arith) (grind (arith, nat_tests)))
    pick false e r = r

split_at : (us : List ℕ) (v i : ℕ) → ((j : ℕ) → j < i → get_or us j 0 < v) → ((j : ℕ) → i ≤ j → j < length us → v < get_or us j 0) →
    contains v us ≡ false
split_at us v i before behind = missing us v (λ j l e. pick j l e (nat_lt j i) refl)
  where
    pick : (j : ℕ) → j < length us → get_or us j 0 ≡ v → (x : Bool) → nat_lt j i ≡ x → ⊥
    pick j l e true t = let less = before j (grind (arith, nat_tests)) in omega arith
    pick j l e false t = let more = behind j (grind (arith, nat_tests)) l in omega arith

pub in_search : (us : List ℕ) (v : ℕ) (r : Result ℕ ℕ) → ascends us ≡ true → IsBinarySearchResult (λ y. nat_cmp y v) us r → is_ok r ≡ contains v us
in_search us v r e h = pick r (searched us v r h (rises 0 us (sorted 0 us (begins us) e)))
  where
    pick : (r : Result ℕ ℕ) →
        MatchResult r (λ i. (i < length us) × (get_or us i 0 ≡ v)) (λ i. (i ≤ length us) × ((k : ℕ) → k < i → get_or us k 0 < v) × ((k : ℕ) → i ≤ k → k < length us → v < get_or us k 0)) →
        is_ok r ≡ contains v us
    pick (Ok i) m = sym (found us i v m.0 m.1)
    pick (Err i) m = sym (split_at us v i m.1 m.2)
