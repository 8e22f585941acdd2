-- Where the copies of variables stand.
use Rattle.std.proofs.Common.{◌≡◌, ◌≢◌, ℕ, zero, suc, ◌+◌, ◌<◌, ◌==◌, List, [], ◌∷◌, length, drop, get_or, Some, Bool, true, false, cond, refl, sym, ap, ◌∙◌, subst, arith, add-one, drop-cons}
use Rattle.std.specs.Prelude.{slice_get, slice_set, IsTrue}
use Rattle.std.proofs.lemmas.Bool.Decides.{nat_tests}
use Rattle.forec_kernel.specs.Combining.{contains}
use Rattle.thread_state.specs.Kept.{PlainOwn, place_in, place_of, HavePlaces}

get_set_same : (xs : List ℕ) (k x : ℕ) → k < length xs → slice_get (slice_set xs k x) k ≡ Some x
get_set_same [] k x lt = absurd (omega arith)
get_set_same (y ∷ ys) zero x lt = refl
get_set_same (y ∷ ys) (suc k) x lt = get_set_same ys k x (omega arith)

get_set_other : (xs : List ℕ) (k j x : ℕ) → j ≢ k → slice_get (slice_set xs k x) j ≡ slice_get xs j
get_set_other [] k j x ne = refl
get_set_other (y ∷ ys) zero zero x ne = absurd (ne refl)
get_set_other (y ∷ ys) zero (suc j) x ne = refl
get_set_other (y ∷ ys) (suc k) zero x ne = refl
get_set_other (y ∷ ys) (suc k) (suc j) x ne = get_set_other ys k j x (λ e. ne (ap suc e))

pub equal_of : (a b : ℕ) → (a == b) ≡ true → a ≡ b
equal_of a b h = grind (arith, nat_tests)

pub differs_of : (a b : ℕ) → (a == b) ≡ false → b ≢ a
differs_of a b h = grind (arith, nat_tests)

-- one variable more, in front of those that have their places
step : (places : List ℕ) (i u : ℕ) (rest : List ℕ) (v : ℕ) → u < length places → (IsTrue (contains v rest) → slice_get places v ≡ Some (i + 1 + place_of rest v)) → (b : Bool) → (u == v) ≡ b →
    IsTrue (cond b true (contains v rest)) → slice_get (slice_set places u i) v ≡ Some (i + cond b 0 (suc (place_of rest v)))
step places i u rest v within more true same c =
    let e : u ≡ v = equal_of u v same in
    let n : i ≡ i + 0 = omega arith in
    subst (λ k. slice_get (slice_set places u i) k ≡ Some i) e (get_set_same places u i within) ∙ ap Some n
step places i u rest v within more false same c =
    let n : i + 1 + place_of rest v ≡ i + suc (place_of rest v) = omega arith in
    get_set_other places u v i (differs_of u v same) ∙ more c ∙ ap Some n

pub one_more : (uses places : List ℕ) (i : ℕ) → i < length uses → get_or uses i 0 < length places →
    ((v : ℕ) → IsTrue (contains v (drop (i + 1) uses)) → slice_get places v ≡ Some (i + 1 + place_of (drop (i + 1) uses) v)) →
    (v : ℕ) → IsTrue (contains v (drop i uses)) → slice_get (slice_set places (get_or uses i 0) i) v ≡ Some (i + place_of (drop i uses) v)
one_more uses places i lt within h v =
    let u = get_or uses i 0 in
    let e = drop-cons uses i 0 lt in
    let more = subst (λ k. IsTrue (contains v (drop k uses)) → slice_get places v ≡ Some (i + 1 + place_of (drop k uses) v)) (add-one i) (h v) in
    subst (λ l. IsTrue (contains v l) → slice_get (slice_set places u i) v ≡ Some (i + place_of l v)) (sym e) (step places i u (drop (suc i) uses) v within more (u == v) refl)

-- a variable stands at its place
pub found_at : (uses : List ℕ) (v : ℕ) → IsTrue (contains v uses) → get_or uses (place_of uses v) 0 ≡ v
found_at [] v h = cc
found_at (u ∷ uses) v h = by_test (u == v) refl h (found_at uses v)
  where
    by_test : (b : Bool) → (u == v) ≡ b → IsTrue (cond b true (contains v uses)) → (IsTrue (contains v uses) → get_or uses (place_of uses v) 0 ≡ v) → get_or (u ∷ uses) (cond b 0 (suc (place_of uses v))) 0 ≡ v
    by_test true e h more = equal_of u v e
    by_test false e h more = more h

pub place_within : (uses : List ℕ) (v : ℕ) → IsTrue (contains v uses) → place_of uses v < length uses
place_within [] v h = cc
place_within (u ∷ uses) v h = by_test (u == v) h (place_within uses v)
  where
    by_test : (b : Bool) → IsTrue (cond b true (contains v uses)) → (IsTrue (contains v uses) → place_of uses v < length uses) → cond b 0 (suc (place_of uses v)) < length (u ∷ uses)
    by_test true h more = omega arith
    by_test false h more = omega (arith, more h)

-- ---- copies of these variables

pub places_at : (k : PlainOwn) (vs : List ℕ) (i : ℕ) → HavePlaces k vs → i < length vs → (get_or vs i 0 < length k.places) × (place_in k (get_or vs i 0) < length k.copies)
places_at k [] i h lt = absurd (omega arith)
places_at k (v ∷ vs) zero h lt = (h.0, h.1)
places_at k (v ∷ vs) (suc i) h lt = places_at k vs i h.2 (omega arith)
