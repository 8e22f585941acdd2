-- The numbers of all cores.
use Rattle.std.proofs.Common.{◌≡◌, ◌≢◌, ◌<◌, ◌≤◌, ◌==◌, ℕ, zero, suc, Bool, true, false, cond, List, [], ◌∷◌, ◌++◌, All, refl, sym, ap, subst, ◌∙◌, arith}
use Rattle.std.proofs.lemmas.Bool.Decides.{nat_tests}
use Rattle.std.proofs.lemmas.List.Elements.{All-append}
use Rattle.forec_kernel.specs.Combining.{contains}
use Rattle.forec_kernel.specs.WellFormed.{distinct}
use Rattle.core_seats.specs.Loads.{AreAll}
use Rattle.core_seats.proofs.LoadLemmas.{same_it, contains_not, contains_front, contains_last}
use Rattle.log_writing.specs.Logging.{numbers_below}

cond_not : (a b : Bool) → cond a false b ≡ true → (a ≡ false) × (b ≡ true)
cond_not true b e = absurd (let bad : false ≡ true = e in cc)
cond_not false b e = (refl, e)

cond_or : (a b : Bool) → cond a true b ≡ false → (a ≡ false) × (b ≡ false)
cond_or true b e = absurd (let bad : true ≡ false = e in cc)
cond_or false b e = (refl, e)

distinct_then : (l : List ℕ) (x : ℕ) → distinct l ≡ true → contains x l ≡ false → distinct (l ++ x ∷ []) ≡ true
distinct_then [] x d n = refl
distinct_then (y ∷ l) x d n =
    let once = cond_not (contains y l) (distinct l) d in
    let other = cond_or (y == x) (contains x l) n in
    let apart : x ≢ y = λ e. (let bad : true ≡ false = sym (subst (λ z. (y == z) ≡ true) (sym e) (same_it y)) ∙ other.0 in cc) in
    ap (λ b. cond b false (distinct (l ++ x ∷ []))) (contains_not y l x once.0 apart) ∙ distinct_then l x once.1 other.1

not_below : (n v : ℕ) → n ≤ v → contains v (numbers_below n) ≡ false
not_below zero v h = refl
not_below (suc n) v h = contains_not v (numbers_below n) n (not_below n v (omega (arith, h))) (λ e. omega (arith, h, e))

pub distinct_below : (n : ℕ) → distinct (numbers_below n) ≡ true
distinct_below zero = refl
distinct_below (suc n) = distinct_then (numbers_below n) n (distinct_below n) (not_below n n (omega arith))

pub all_below : (n m : ℕ) → n ≤ m → All (λ core. core < m) (numbers_below n)
all_below zero m h = grind arith
all_below (suc n) m h = All-append (λ core. core < m) (numbers_below n) (n ∷ []) (all_below n m (omega (arith, h))) (grind (arith, h))

pub are_all : (n : ℕ) → AreAll n (numbers_below n)
are_all zero core h = absurd (omega (arith, h))
are_all (suc n) core h = by_case (core == n) refl (λ other. are_all n core other)
  where
    by_case : (t : Bool) → (core == n) ≡ t → (core < n → contains core (numbers_below n) ≡ true) → contains core (numbers_below n ++ n ∷ []) ≡ true
    by_case true e ih = let same : core ≡ n = grind (arith, nat_tests, e) in subst (λ v. contains v (numbers_below n ++ n ∷ []) ≡ true) (sym same) (contains_last n (numbers_below n))
    by_case false e ih = let other : core < n = grind (arith, nat_tests, e, h) in contains_front core (numbers_below n) n (ih other)
