-- The living branches of a par.
use Rattle.std.proofs.Common.{◌≡◌, ℕ, zero, suc, ◌<◌, List, [], ◌∷◌, length, map, Option, Some, None, Bool, true, false, cond, refl, sym, ap, arith}
use Rattle.std.specs.Prelude.{get_or}
use Rattle.std.specs.Option.{option_eq}
use Rattle.std.proofs.Math.Dec.{eqb}
use Rattle.forec_kernel.specs.WellFormed.{is_par}
use Rattle.thread_code.specs.Machine.{living}
use Rattle.thread_state.specs.Kept.{some_of}

module _ (live : List Bool) (b : ℕ) (rest : List ℕ) where
  pub skips : get_or live b false ≡ false → some_of (living live rest) ≡ some_of (living live (b ∷ rest))
  skips e = ap (λ x. some_of (cond x (b ∷ living live rest) (living live rest))) (sym e)

  pub finds : get_or live b false ≡ true → some_of (living live (b ∷ rest)) ≡ true
  finds e = ap (λ x. some_of (cond x (b ∷ living live rest) (living live rest))) e

-- an element of a list, as a plain value
pub read_plain : {A B : Type 0} → (f : A → B) (xs : List A) (i : ℕ) (x : A) (d : B) → i < length xs → x ≡ get_or xs i x → get_or (map f xs) i d ≡ f x
read_plain f [] i x d lt e = absurd (omega arith)
read_plain f (y ∷ ys) zero x d lt e = ap f (sym e)
read_plain f (y ∷ ys) (suc i) x d lt e = read_plain f ys i x d (omega arith) e

pub same_test : (p : Option ℕ) (j : ℕ) → option_eq eqb p (Some j) ≡ is_par p j
same_test None j = refl
same_test (Some m) j = refl
