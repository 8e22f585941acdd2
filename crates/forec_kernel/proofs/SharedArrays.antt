-- Each element of a shared array is one of the variables that the thread uses.
use Rattle.std.proofs.Common.{ℕ, zero, suc, ◌+◌, ◌<◌, ◌≡◌, ℤ, pos, negsuc, Bool, true, false, ◌&&◌, IsTrue, Some, None, List, cond, nat_lt, refl, subst, arith}
use Rattle.std.proofs.lemmas.Bool.Decides.{nat_tests}
use Rattle.forec_kernel.specs.Values.{index_in}
use Rattle.forec_kernel.specs.Combining.{contains}
use Rattle.forec_kernel.specs.WellFormed.{all_in, count_up}

both : (a b : Bool) → IsTrue (a && b) → IsTrue a × IsTrue b
both true true h = (refl, refl)
both true false h = cc
both false b h = cc

pub element_used : (v n : ℕ) (uses : List ℕ) (i : ℕ) → IsTrue (all_in (count_up v n) uses) → i < n → IsTrue (contains (v + i) uses)
element_used v zero uses i h lt = absurd (omega arith)
element_used v (suc n) uses zero h lt =
    let e : v ≡ v + 0 = omega arith in
    subst (λ x. IsTrue (contains x uses)) e (both (contains v uses) (all_in (count_up (suc v) n) uses) h).0
element_used v (suc n) uses (suc i) h lt =
    let e : suc v + i ≡ v + suc i = omega arith in
    subst (λ x. IsTrue (contains x uses)) e
    (element_used (suc v) n uses i (both (contains v uses) (all_in (count_up (suc v) n) uses) h).1 (omega arith))

-- an index that was found in range is below the length
pub index_below : (n : ℕ) (k : ℤ) (i : ℕ) → index_in n k ≡ Some i → i < n
index_below n (pos j) i h = by (nat_lt j n) refl h
  where
    by : (b : Bool) → nat_lt j n ≡ b → cond b (Some j) None ≡ Some i → i < n
    by true e h = let same : j ≡ i = cc in subst (λ x. x < n) same (grind (arith, nat_tests))
    by false e h = cc
index_below n (negsuc j) i h = cc
