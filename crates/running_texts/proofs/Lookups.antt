-- A variable's place in a list that ascends.
use Rattle.std.proofs.Common.{◌≡◌, ◌≢◌, ℕ, Bool, zero, suc, ◌<◌, ◌≤◌, ◌-◌, ◌⊎◌, inl, inr, ◌==◌, true, false, cond, List, [], ◌∷◌, length, get_or, refl, arith}
use Rattle.std.proofs.Math.Nat.{eq-or-lt_of_le}
use Rattle.std.proofs.lemmas.Bool.{cases_lt}
use Rattle.forec_kernel.specs.declared.shape.VarCopy.{VarCopy}
use Rattle.forec_kernel.specs.Values.{copy_of}
use Rattle.forec_kernel.specs.Combining.{contains}
use Rattle.running_texts.proofs.Copies.{differ, same}
use Rattle.running_texts.specs.Lookups.{absent_copy, IsAscending, IsLowerBound}

pub copy_found : (us : List ℕ) (cs : List VarCopy) (v k : ℕ) → ((i : ℕ) → i < k → get_or us i 0 < v) → k < length us → get_or us k 0 ≡ v →
    copy_of us cs v ≡ get_or cs k absent_copy
copy_found [] cs v k below p e = absurd (omega arith)
copy_found (u ∷ us) [] v zero below p e = refl
copy_found (u ∷ us) [] v (suc k) below p e = refl
copy_found (u ∷ us) (c ∷ cs) v zero below p e = rw (same u v e)
copy_found (u ∷ us) (c ∷ cs) v (suc k) below p e =
    let first : u < v = below 0 (omega arith) in
    rw (differ u v (omega arith)) (copy_found us cs v k (λ i q. below (suc i) (omega arith)) (omega arith) e)

pub is_there : (us : List ℕ) (v k : ℕ) → k < length us → get_or us k 0 ≡ v → contains v us ≡ true
is_there [] v k p e = absurd (omega arith)
is_there (u ∷ us) v zero p e = rw (same u v e)
is_there (u ∷ us) v (suc k) p e = either (u == v) (is_there us v k (omega arith) e)
  where
    either : (b : Bool) → contains v us ≡ true → cond b true (contains v us) ≡ true
    either true h = refl
    either false h = h

pub is_absent : (us : List ℕ) (v : ℕ) → ((i : ℕ) → i < length us → get_or us i 0 ≢ v) → contains v us ≡ false
is_absent [] v h = refl
is_absent (u ∷ us) v h = rw (differ u v (h 0 (omega arith))) (is_absent us v (λ i p. h (suc i) (omega arith)))

-- a variable that isn't at its lower bound isn't there
pub not_there : (us : List ℕ) (v k : ℕ) → IsAscending us → IsLowerBound v us k → (k < length us → get_or us k 0 ≢ v) → contains v us ≡ false
not_there us v k up bound h = is_absent us v apart
  where
    apart : (i : ℕ) → i < length us → get_or us i 0 ≢ v
    apart i p e = sides (cases_lt i k)
      where
        sides : (i < k) ⊎ (k ≤ i) → ⊥
        sides (inl l) = let a : get_or us i 0 < v = bound.below i l in absurd (omega arith)
        sides (inr g) =
            let a : v ≤ get_or us k 0 = bound.above k (omega arith) (omega arith) in
            let b : get_or us k 0 ≤ get_or us i 0 = up k i g p in
            h (omega arith) (omega arith)

pub copy_missing : (us : List ℕ) (cs : List VarCopy) (v : ℕ) → contains v us ≡ false → copy_of us cs v ≡ absent_copy
copy_missing [] cs v h = refl
copy_missing (u ∷ us) [] v h = refl
copy_missing (u ∷ us) (c ∷ cs) v h = either (u == v) (copy_missing us cs v) h
  where
    either : (b : Bool) → (contains v us ≡ false → copy_of us cs v ≡ absent_copy) → cond b true (contains v us) ≡ false → cond b c (copy_of us cs v) ≡ absent_copy
    either true f e = absurd (cc)
    either false f e = f e

-- a search as far as it has come
pub record Between (v : ℕ) (us : List ℕ) (low high : ℕ) : Type 0 where
  pub order : low ≤ high
  pub within : high ≤ length us
  pub below : (i : ℕ) → i < low → get_or us i 0 < v
  pub above : (i : ℕ) → high ≤ i → i < length us → v ≤ get_or us i 0

pub lower_found : (v : ℕ) (us : List ℕ) (low high : ℕ) → Between v us low high → high ≤ low → IsLowerBound v us low
lower_found v us low high s h =
    let a : low ≤ high = s.order in
    let b : high ≤ length us = s.within in
    record { within = omega arith; below = s.below; above = λ i p q. s.above i (omega arith) q }

pub search_higher : (v : ℕ) (us : List ℕ) (low high middle : ℕ) → IsAscending us → Between v us low high → middle < high → get_or us middle 0 < v →
    Between v us (suc middle) high
search_higher v us low high middle up s p small =
    let b : high ≤ length us = s.within in
    record {
      order = omega arith;
      within = s.within;
      below = λ i q. (let c : get_or us i 0 ≤ get_or us middle 0 = up i middle (omega arith) (omega arith) in omega arith);
      above = s.above;
    }

pub search_lower : (v : ℕ) (us : List ℕ) (low high middle : ℕ) → IsAscending us → Between v us low high → low ≤ middle → middle < high → v ≤ get_or us middle 0 →
    Between v us low middle
search_lower v us low high middle up s p q great =
    let b : high ≤ length us = s.within in
    record {
      order = omega arith;
      within = omega arith;
      below = s.below;
      above = λ i r t. (let c : get_or us middle 0 ≤ get_or us i 0 = up middle i (omega arith) t in omega arith);
    }

pub ascend_more : (us : List ℕ) (n : ℕ) → ((a b : ℕ) → a ≤ b → b < n → get_or us a 0 ≤ get_or us b 0) → 0 < n → get_or us (n - 1) 0 ≤ get_or us n 0 →
    (a b : ℕ) → a ≤ b → b < suc n → get_or us a 0 ≤ get_or us b 0
ascend_more us n up some step a b p q = last (eq-or-lt_of_le {n = b} {m = n} (omega arith))
  where
    own : (a ≡ n) ⊎ (a < n) → get_or us a 0 ≤ get_or us n 0
    own (inl e) = rw e (omega arith)
    own (inr l) = let c : get_or us a 0 ≤ get_or us (n - 1) 0 = up a (n - 1) (omega arith) (omega arith) in omega arith

    last : (b ≡ n) ⊎ (b < n) → get_or us a 0 ≤ get_or us b 0
    last (inl e) = rw e (own (eq-or-lt_of_le {n = a} {m = n} (omega arith)))
    last (inr l) = up a b p l
