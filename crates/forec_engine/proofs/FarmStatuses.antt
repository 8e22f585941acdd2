-- The status of a farm is the one with the greatest number.
use Rattle.std.proofs.Common.{◌≡◌, ◌≢◌, ◌<◌, ◌≤◌, ℕ, zero, suc, nat_le, Bool, true, false, List, [], ◌∷◌, Some, map, length, get_or, refl, sym, arith, if◌then◌else◌, All, nat_cmp}
use Rattle.std.proofs.lemmas.Bool.{leb-true, leb-false}
use Rattle.std.proofs.lemmas.List.Elements.{All-contains}
use Rattle.rayon.specs.Lists.{IsGreatest}
use Rattle.rayon.proofs.ToStd.{IsGreatest-All}
use Rattle.trace_ticks.specs.Report.{Report}
use Rattle.trace_ticks.specs.StatusNumbers.{status_number}
use Rattle.trace_ticks.specs.declared.status.Status.{Status}
use Rattle.trace_ticks.specs.declared.status.Status.TheVariants as status
use Rattle.forec_engine.specs.Farms.{worse, worst}
use Rattle.forec_engine.specs.Farming.{IsRunStatus, AreRun}

-- ---- of two

module _ (a b : Status) where
  left : (t : Bool) → nat_le (status_number b) (status_number a) ≡ t → status_number a ≤ status_number (if t then a else b)
  left true e = omega arith
  left false e = let h : status_number a < status_number b = leb-false (status_number b) (status_number a) e in omega (arith, h)

  right : (t : Bool) → nat_le (status_number b) (status_number a) ≡ t → status_number b ≤ status_number (if t then a else b)
  right true e = leb-true (status_number b) (status_number a) e
  right false e = omega arith

  within : (n : ℕ) (t : Bool) → status_number a ≤ n → status_number b ≤ n → status_number (if t then a else b) ≤ n
  within n true f g = f
  within n false f g = g

  runs : (t : Bool) → IsRunStatus a → IsRunStatus b → IsRunStatus (if t then a else b)
  runs true f g = f
  runs false f g = g

-- ---- of all

top : (ss : List Status) (k d : ℕ) → k < length (map status_number ss) → get_or (map status_number ss) k d ≤ status_number (worst ss)
top [] k d lt = absurd (omega (arith, lt))
top (s ∷ ss) zero d lt = left s (worst ss) (nat_le (status_number (worst ss)) (status_number s)) refl
top (s ∷ ss) (suc k) d lt =
    let below : get_or (map status_number ss) k d ≤ status_number (worst ss) = top ss k d (omega (arith, lt)) in
    let here : status_number (worst ss) ≤ status_number (worse s (worst ss)) = right s (worst ss) (nat_le (status_number (worst ss)) (status_number s)) refl in
    omega (arith, below, here)

bound : (ss : List Status) (n : ℕ) → ((k d : ℕ) → k < length (map status_number ss) → get_or (map status_number ss) k d ≤ n) → status_number (worst ss) ≤ n
bound [] n h = omega arith
bound (s ∷ ss) n h =
    within s (worst ss) n (nat_le (status_number (worst ss)) (status_number s)) (h zero 0 (omega arith)) (bound ss n (λ k d lt. h (suc k) d (omega (arith, lt))))

-- the greatest number is that of the worst status
pub greatest_is : (ss : List Status) (n : ℕ) → IsGreatest nat_cmp (map status_number ss) (Some n) → status_number (worst ss) ≡ n
greatest_is ss n h =
    let up : n ≤ status_number (worst ss) = All-contains (λ x. x ≤ status_number (worst ss)) (map status_number ss) n (λ k d lt. top ss k d lt) h.0 in
    let all : All (λ x. x ≤ n) (map status_number ss) = IsGreatest-All (map status_number ss) (Some n) h in
    let down : status_number (worst ss) ≤ n = bound ss n (λ k d lt. all k d lt) in
    omega (arith, up, down)

pub no_statuses : (ss : List Status) → map status_number ss ≡ [] → status.Done ≡ worst ss
no_statuses [] e = refl
no_statuses (s ∷ ss) e = absurd (let bad : status_number s ∷ map status_number ss ≡ [] = e in cc)

-- ---- statuses of runs

pub worst_runs : (rs : List Report) → AreRun rs → IsRunStatus (worst (map (λ r. r.status) rs))
worst_runs [] h = tt
worst_runs (r ∷ rs) h = runs r.status (worst (map (λ r. r.status) rs)) (nat_le (status_number (worst (map (λ r. r.status) rs))) (status_number r.status)) h.0 (worst_runs rs h.1)

-- ---- numbers

-- a number that no other status has is that of no memory, if it is one
pub last_number : (n : ℕ) → n ≢ 0 → n ≢ 2 → n ≢ 3 → n ≢ 4 → n ≢ 5 → n ≢ 6 → n ≢ 7 → n ≢ 8 → n ≢ 10 → (s : Status) → status_number s ≡ n → status.NoMemory ≡ s
last_number n a b c d e f g h i status.Done is = absurd (a (sym is))
last_number n a b c d e f g h i status.Usage is = absurd (b (sym is))
last_number n a b c d e f g h i status.Refused is = absurd (c (sym is))
last_number n a b c d e f g h i status.Trace is = absurd (d (sym is))
last_number n a b c d e f g h i status.Trapped is = absurd (e (sym is))
last_number n a b c d e f g h i status.Over is = absurd (f (sym is))
last_number n a b c d e f g h i status.ReadFault is = absurd (g (sym is))
last_number n a b c d e f g h i status.WriteFault is = absurd (h (sym is))
last_number n a b c d e f g h i status.NoMemory is = refl
last_number n a b c d e f g h i status.Full is = absurd (i (sym is))
