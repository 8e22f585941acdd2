-- Something that holds of each element of a list.
use Rattle.std.proofs.Common.{◌≡◌, ◌==◌, ℕ, Bool, true, false, cond, List, [], ◌∷◌, refl, ap}
use Rattle.std.proofs.lemmas.Bool.{eq-eqb}
use Rattle.forec_kernel.specs.Combining.{contains}

abbrev pub Each : {A : Type 0} → (A → Type 0) → List A → Type 0
Each P [] = Unit {0}
Each P (x ∷ xs) = P x × Each P xs

-- of each number that is contained
pub each_in : (P : ℕ → Type 0) (vs : List ℕ) → ((v : ℕ) → contains v vs ≡ true → P v) → Each P vs
each_in P [] h = tt
each_in P (v ∷ vs) h = (h v (ap (λ b. cond b true (contains v vs)) (eq-eqb v v refl)), each_in P vs (λ w m. h w (more w (v == w) m)))
  where
    more : (w : ℕ) (b : Bool) → contains w vs ≡ true → cond b true (contains w vs) ≡ true
    more w true m = refl
    more w false m = m
