-- The longest front of a text whose bytes pass a test.
use Rattle.std.proofs.Common.{◌≡◌, ℕ, zero, suc, ◌≤◌, Bool, true, false, List, [], ◌∷◌, length, take, drop, refl, ap, arith}
use Rattle.std.specs.List.{take_while}
use Rattle.std.proofs.lemmas.List.Sums.{take_while-cons}
use Rattle.forec_tree.specs.Lexis.{Each, EndsOr}

pub each_by : (p q : ℕ → Bool) → ((b : ℕ) → p b ≡ true → q b ≡ true) → (bs : List ℕ) → Each p bs → Each q bs
each_by p q h [] a = tt
each_by p q h (b ∷ bs) a = (h b a.0, each_by p q h bs a.1)

module _ (p : ℕ → Bool) where
  pub run_within : (text : List ℕ) → length (take_while p text) ≤ length text
  run_within [] = omega arith
  run_within (b ∷ bs) = by_test (p b) refl (run_within bs)
    where
      by_test : (t : Bool) → p b ≡ t → length (take_while p bs) ≤ length bs → length (take_while p (b ∷ bs)) ≤ suc (length bs)
      by_test true e ih = rw (take_while-cons p b bs, e) (omega arith)
      by_test false e ih = rw (take_while-cons p b bs, e) (omega arith)

  pub run_front : (text : List ℕ) → take (length (take_while p text)) text ≡ take_while p text
  run_front [] = refl
  run_front (b ∷ bs) = by_test (p b) refl (run_front bs)
    where
      by_test : (t : Bool) → p b ≡ t → take (length (take_while p bs)) bs ≡ take_while p bs → take (length (take_while p (b ∷ bs))) (b ∷ bs) ≡ take_while p (b ∷ bs)
      by_test true e ih = rw (take_while-cons p b bs, e) (ap (λ z. b ∷ z) ih)
      by_test false e ih = rw (take_while-cons p b bs, e)

  pub run_each : (text : List ℕ) → Each p (take_while p text)
  run_each [] = tt
  run_each (b ∷ bs) = by_test (p b) refl (run_each bs)
    where
      by_test : (t : Bool) → p b ≡ t → Each p (take_while p bs) → Each p (take_while p (b ∷ bs))
      by_test true e ih = rw (take_while-cons p b bs, e) (e, ih)
      by_test false e ih = rw (take_while-cons p b bs, e) tt

  -- a front that passes is no longer than the run
  pub run_longest : (text : List ℕ) (m : ℕ) → m ≤ length text → Each p (take m text) → m ≤ length (take_while p text)
  run_longest [] m h a = omega arith
  run_longest (b ∷ bs) zero h a = omega arith
  run_longest (b ∷ bs) (suc k) h a = let ih = run_longest bs k (omega arith) a.1 in rw (take_while-cons p b bs, a.0) (omega arith)

  module _ (q : ℕ → Bool) where
    pub run_ends : ((b : ℕ) → p b ≡ false → q b ≡ true) → (text : List ℕ) → EndsOr q (drop (length (take_while p text)) text)
    run_ends h [] = tt
    run_ends h (b ∷ bs) = by_test (p b) refl (run_ends h bs)
      where
        by_test : (t : Bool) → p b ≡ t → EndsOr q (drop (length (take_while p bs)) bs) → EndsOr q (drop (length (take_while p (b ∷ bs))) (b ∷ bs))
        by_test true e ih = rw (take_while-cons p b bs, e) ih
        by_test false e ih = rw (take_while-cons p b bs, e) (h b e)

    -- a front that passes, after which a byte of the other sort or nothing stands, is the run
    pub run_is : ((b : ℕ) → p b ≡ true → q b ≡ true → ⊥) → (text : List ℕ) (m : ℕ) → m ≤ length text → Each p (take m text) → EndsOr q (drop m text) → m ≡ length (take_while p text)
    run_is h [] m le a e = omega arith
    run_is h (b ∷ bs) zero le a e = by_test (p b) refl
      where
        by_test : (t : Bool) → p b ≡ t → zero ≡ length (take_while p (b ∷ bs))
        by_test true f = absurd (h b f e)
        by_test false f = rw (take_while-cons p b bs, f)
    run_is h (b ∷ bs) (suc k) le a e = let ih = run_is h bs k (omega arith) a.1 e in rw (take_while-cons p b bs, a.0) (omega arith)
