-- Numbers that follow each other.
use Rattle.std.proofs.Common.{◌≡◌, ℕ, zero, suc, ◌+◌, ◌<◌, ◌==◌, Bool, true, false, List, [], ◌∷◌, length, get_or, take, IsTrue, refl, sym, ap, ◌∙◌, arith, add-one, ◌-◌, ◌≤◌}
use Rattle.std.specs.Prelude.{◌&&◌, nat_lt}
use Rattle.std.proofs.lemmas.Bool.Decides.{nat_tests}
use Rattle.forec_kernel.specs.WellFormed.{all_below}
use Rattle.tick_jobs.proofs.Copies.{below_is}
use Rattle.tick_jobs.specs.Jobs.{follow_each_other}

both_true : (b : Bool) → (b && true) ≡ b
both_true true = refl
both_true false = refl

all_three : (a b c : Bool) → (a && (b && c)) ≡ ((a && b) && c)
all_three true b c = refl
all_three false b c = refl

pub follow_more : (xs : List ℕ) (j d : ℕ) → suc j < length xs →
    follow_each_other (take (suc (suc j)) xs) ≡ (follow_each_other (take (suc j) xs) && (get_or xs (suc j) d == get_or xs j d + 1))
follow_more [] j d lt = absurd (omega arith)
follow_more (a ∷ []) j d lt = absurd (omega arith)
follow_more (a ∷ b ∷ rest) zero d lt = both_true (b == a + 1)
follow_more (a ∷ b ∷ rest) (suc j) d lt =
    ap (λ t. (b == a + 1) && t) (follow_more (b ∷ rest) j d (omega arith))
    ∙ all_three (b == a + 1) (follow_each_other (take (suc j) (b ∷ rest))) (get_or (b ∷ rest) (suc j) d == get_or (b ∷ rest) j d + 1)

pub follow_step : (xs : List ℕ) (i d : ℕ) (f : Bool) → 1 ≤ i → i < length xs → f ≡ follow_each_other (take i xs) →
    (f && (get_or xs i d == get_or xs (i - 1) d + 1)) ≡ follow_each_other (take (i + 1) xs)
follow_step xs zero d f lo lt h = absurd (omega arith)
follow_step xs (suc j) d f lo lt h =
    let less : suc j - 1 ≡ j = omega arith in
    ap (λ m. f && (get_or xs (suc j) d == get_or xs m d + 1)) less
    ∙ ap (λ t. t && (get_or xs (suc j) d == get_or xs j d + 1)) h
    ∙ sym (follow_more xs j d lt)
    ∙ sym (ap (λ n. follow_each_other (take n xs)) (add-one (suc j)))

next_is : (a b : ℕ) (t : Bool) → IsTrue ((b == a + 1) && t) → (b ≡ a + 1) × IsTrue t
next_is a b t h = pick (b == a + 1) refl h
  where
    pick : (u : Bool) → (b == a + 1) ≡ u → IsTrue (u && t) → (b ≡ a + 1) × IsTrue t
    pick true e h = (grind (arith, nat_tests), h)
    pick false e h = absurd cc

pub following_at : (xs : List ℕ) (i d : ℕ) → IsTrue (follow_each_other xs) → i < length xs → get_or xs i d ≡ get_or xs 0 d + i
following_at [] i d h lt = absurd (omega arith)
following_at (a ∷ rest) zero d h lt = omega arith
following_at (a ∷ []) (suc i) d h lt = absurd (omega arith)
following_at (a ∷ b ∷ rest) (suc i) d h lt =
    let n = next_is a b (follow_each_other (b ∷ rest)) h in
    following_at (b ∷ rest) i d n.1 (omega arith) ∙ omega (arith, n.0)

both_hold : (b c : Bool) → IsTrue b → IsTrue c → IsTrue (b && c)
both_hold true c h i = i
both_hold false c h i = absurd cc

pub below_more : (n m : ℕ) (vs : List ℕ) → n ≤ m → IsTrue (all_below n vs) → IsTrue (all_below m vs)
below_more n m [] le h = h
below_more n m (v ∷ vs) le h =
    let b = below_is v n (all_below n vs) h in
    let less : v < n = b.0 in
    both_hold (nat_lt v m) (all_below m vs) (grind (arith, nat_tests)) (below_more n m vs le b.1)
