-- Lists of cores.
use Rattle.std.proofs.Common.{◌≡◌, ℕ, zero, suc, true, false, Some, List, [], ◌∷◌, length, drop, arith}
use Rattle.std.specs.Prelude.{slice_get}
use Rattle.std.proofs.lemmas.Bool.Decides.{nat_tests}
use Rattle.forec_kernel.specs.Combining.{contains}

-- the core that is looked for is there, or is looked for after it
pub contains_here : (core : ℕ) (l : List ℕ) (n x : ℕ) → slice_get l n ≡ Some x → x ≡ core → contains core (drop n l) ≡ true
contains_here core [] zero x e same = cc
contains_here core [] (suc n) x e same = cc
contains_here core (y ∷ l) zero x e same = grind (arith, nat_tests)
contains_here core (y ∷ l) (suc n) x e same = contains_here core l n x e same

pub contains_later : (core : ℕ) (l : List ℕ) (n x : ℕ) → slice_get l n ≡ Some x → (x ≡ core → ⊥) → contains core (drop n l) ≡ contains core (drop (suc n) l)
contains_later core [] zero x e other = cc
contains_later core [] (suc n) x e other = cc
contains_later core (y ∷ l) zero x e other = grind (arith, nat_tests)
contains_later core (y ∷ l) (suc n) x e other = contains_later core l n x e other

pub contains_none : (core : ℕ) (l : List ℕ) (n : ℕ) → length l ≡ n → contains core (drop n l) ≡ false
contains_none core [] n e = grind arith
contains_none core (y ∷ l) zero e = absurd (omega (arith, e))
contains_none core (y ∷ l) (suc n) e = contains_none core l n (omega (arith, e))
