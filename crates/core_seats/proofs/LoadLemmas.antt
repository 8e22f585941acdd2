-- Lists that are filled one by one.
use Rattle.std.proofs.Common.{◌≡◌, ◌≢◌, ℕ, zero, suc, ◌+◌, ◌<◌, ◌≤◌, ◌==◌, Bool, true, false, cond, Some, List, [], ◌∷◌, ◌++◌, length, take, refl, sym, ap, ◌∙◌, subst, inl, inr, ⊎_elim, arith}
use Rattle.std.specs.Prelude.{slice_get, get_or, All, ◌⊎◌}
use Rattle.std.proofs.lemmas.Bool.{cases_lt}
use Rattle.std.proofs.lemmas.Bool.Decides.{nat_tests}
use Rattle.forec_kernel.specs.Combining.{contains}
use Rattle.core_seats.specs.Loads.{is_on, AreOwn}
use Rattle.tick_jobs.proofs.Lists.{by_equal, some_once, take_more, take_all, get_then, length_then}

front_at : (l : List ℕ) (x k d : ℕ) → k < length l → get_or (l ++ x ∷ []) k d ≡ get_or l k d
front_at [] x k d lt = absurd (omega arith)
front_at (y ∷ l) x zero d lt = refl
front_at (y ∷ l) x (suc k) d lt = front_at l x k d (omega (arith, lt))

last_at : (l : List ℕ) (x k d : ℕ) → k ≡ length l → get_or (l ++ x ∷ []) k d ≡ x
last_at [] x zero d e = refl
last_at [] x (suc k) d e = absurd (omega (arith, e))
last_at (y ∷ l) x zero d e = absurd (omega (arith, e))
last_at (y ∷ l) x (suc k) d e = last_at l x k d (omega (arith, e))

pub all_then : (n : ℕ) (l : List ℕ) (x : ℕ) → All (λ core. core < n) l → x < n → All (λ core. core < n) (l ++ x ∷ [])
all_then n l x h lt k d within =
    ⊎_elim (λ less. subst (λ z. z < n) (sym (front_at l x k d less)) (h k d less))
    (λ ge. let count = length_then l x in subst (λ z. z < n) (sym (last_at l x k d (omega (arith, ge, within, count)))) lt) (cases_lt k (length l))

pub take_next : {A : Type 0} (l : List A) (k : ℕ) (x : A) → slice_get l k ≡ Some x → take k l ++ x ∷ [] ≡ take (k + 1) l
take_next l k x e = let one : suc k ≡ k + 1 = omega arith in sym (take_more l k x e) ∙ ap (λ n. take n l) one

pub take_end : {A : Type 0} (l : List A) (k : ℕ) → length l ≤ k → take k l ≡ l
take_end l k le = take_all l k le

is_it : (a b : ℕ) → (a == b) ≡ true → a ≡ b
is_it a b e = grind (arith, nat_tests)

not_it : (a b : ℕ) → a ≢ b → (a == b) ≡ false
not_it a b n = pick (a == b) refl
  where
    pick : (t : Bool) → (a == b) ≡ t → t ≡ false
    pick true e = absurd (n (is_it a b e))
    pick false e = refl

pub same_it : (a : ℕ) → (a == a) ≡ true
same_it a = grind (arith, nat_tests)

pub contains_not : (v : ℕ) (l : List ℕ) (x : ℕ) → contains v l ≡ false → x ≢ v → contains v (l ++ x ∷ []) ≡ false
contains_not v [] x h n = ap (λ b. cond b true false) (not_it x v n)
contains_not v (y ∷ l) x h n = pick (y == v) h (contains_not v l x)
  where
    pick : (t : Bool) → cond t true (contains v l) ≡ false → (contains v l ≡ false → x ≢ v → contains v (l ++ x ∷ []) ≡ false) → cond t true (contains v (l ++ x ∷ [])) ≡ false
    pick true h ih = cc
    pick false h ih = ih h n

pub contains_at : (v : ℕ) (l : List ℕ) (i : ℕ) → slice_get l i ≡ Some v → contains v l ≡ true
contains_at v [] zero e = cc
contains_at v [] (suc i) e = cc
contains_at v (y ∷ l) zero e = let same = some_once y v e in ap (λ b. cond b true (contains v l)) (ap (λ z. z == v) same ∙ same_it v)
contains_at v (y ∷ l) (suc i) e = ap (λ b. cond (y == v) true b) (contains_at v l i e) ∙ either (y == v)
  where
    either : (t : Bool) → cond t true true ≡ true
    either true = refl
    either false = refl

pub contains_front : (v : ℕ) (l : List ℕ) (x : ℕ) → contains v l ≡ true → contains v (l ++ x ∷ []) ≡ true
contains_front v [] x h = cc
contains_front v (y ∷ l) x h = pick (y == v) h (contains_front v l x)
  where
    pick : (t : Bool) → cond t true (contains v l) ≡ true → (contains v l ≡ true → contains v (l ++ x ∷ []) ≡ true) → cond t true (contains v (l ++ x ∷ [])) ≡ true
    pick true h ih = refl
    pick false h ih = ih h

pub contains_last : (v : ℕ) (l : List ℕ) → contains v (l ++ v ∷ []) ≡ true
contains_last v [] = ap (λ b. cond b true false) (same_it v)
contains_last v (y ∷ l) = ap (λ b. cond (y == v) true b) (contains_last v l) ∙ either (y == v)
  where
    either : (t : Bool) → cond t true true ≡ true
    either true = refl
    either false = refl

-- of the first n mailboxes, these are those of the threads on these cores
pub record OwnBelow (places cores own : List ℕ) (n : ℕ) : Type 0 where
  pub here : (i k : ℕ) → slice_get own i ≡ Some k → (suc k < length places) × (is_on places cores (suc k) ≡ true)
  pub all : (k : ℕ) → k < n → is_on places cores (suc k) ≡ true → contains k own ≡ true

pub own_step : (places cores own : List ℕ) (n : ℕ) → OwnBelow places cores own n → n + 1 < length places → (b : Bool) → b ≡ is_on places cores (suc n) → OwnBelow places cores (cond b (own ++ n ∷ []) own) (n + 1)
own_step places cores own n h lt true e = record {
  here = λ i k at.
      ⊎_elim (λ p. subst (λ j. (suc j < length places) × (is_on places cores (suc j) ≡ true)) (sym p.1) (omega (arith, lt), sym e)) (λ old. h.here i k old) (get_then own n i k at);
  all = λ k less on. by_equal k n (λ other. contains_front k own n (h.all k (omega (arith, less, other)) on)) (λ same. subst (λ j. contains j (own ++ n ∷ []) ≡ true) (sym same) (contains_last n own));
}
own_step places cores own n h lt false e = record {
  here = h.here;
  all = λ k less on. by_equal k n (λ other. h.all k (omega (arith, less, other)) on) (λ same. let no = e ∙ ap (λ j. is_on places cores (suc j)) (sym same) ∙ on in cc);
}

pub own_all : (places cores own : List ℕ) (n : ℕ) → OwnBelow places cores own n → length places ≤ n + 1 → AreOwn places cores own
own_all places cores own n h le = record { here = h.here; all = λ k lt on. h.all k (omega (arith, lt, le)) on }
