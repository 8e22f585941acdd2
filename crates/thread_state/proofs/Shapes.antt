-- What a shape says of its threads.
use Rattle.std.proofs.Common.{◌≡◌, ℕ, zero, suc, ◌<◌, ◌≤◌, List, [], ◌∷◌, length, map, get_or, Bool, true, false, cond, refl, sym, ap, arith}
use Rattle.forec_kernel.specs.declared.shape.ThreadShape.{ThreadShape}
use Rattle.forec_kernel.specs.Shapes.{PlainThread, plain_thread}
use Rattle.forec_kernel.specs.Texts.{params_in}
use Rattle.forec_kernel.specs.WellFormed.{branches_of, is_par}

pub read_params : (xs : List ThreadShape) (t : ℕ) (x : ThreadShape) → t < length xs → x ≡ get_or xs t x → params_in (map plain_thread xs) t ≡ x.params
read_params [] t x lt e = absurd (omega arith)
read_params (y ∷ ys) zero x lt e = ap (λ (s : ThreadShape). s.params) (sym e)
read_params (y ∷ ys) (suc t) x lt e = read_params ys t x (omega arith) e

pub few_branches : (ss : List PlainThread) (i j : ℕ) → length (branches_of ss i j) ≤ length ss
few_branches [] i j = omega arith
few_branches (s ∷ ss) i j = by_par (is_par s.par j) (few_branches ss (suc i) j)
  where
    by_par : (t : Bool) → length (branches_of ss (suc i) j) ≤ length ss → length (cond t (i ∷ branches_of ss (suc i) j) (branches_of ss (suc i) j)) ≤ length (s ∷ ss)
    by_par true le = omega (arith, le)
    by_par false le = omega (arith, le)

pub all_uses : (xs : List ThreadShape) → map (λ t. t.uses.items) xs ≡ map (λ t. t.uses) (map plain_thread xs)
all_uses [] = refl
all_uses (x ∷ xs) = ap (λ l. x.uses.items ∷ l) (all_uses xs)
