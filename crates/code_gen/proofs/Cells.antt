-- Cells of a list that is written past its end: what was written, and what is beside it.
use Rattle.std.proofs.Common.{◌≡◌, ℕ, zero, suc, List, [], ◌∷◌, get_or, refl, ap}
use Rattle.thread_code.specs.Machine.{put_at}

pub put_same : {A : Type 0} → (d : A) (xs : List A) (k : ℕ) (x : A) → get_or (put_at d xs k x) k d ≡ x
put_same d [] zero x = refl
put_same d [] (suc k) x = put_same d [] k x
put_same d (y ∷ ys) zero x = refl
put_same d (y ∷ ys) (suc k) x = put_same d ys k x

pub put_other : {A : Type 0} → (d : A) (xs : List A) (k : ℕ) (x : A) (i : ℕ) → (i ≡ k → ⊥) → get_or (put_at d xs k x) i d ≡ get_or xs i d
put_other d [] zero x zero h = absurd (h refl)
put_other d [] zero x (suc i) h = refl
put_other d [] (suc k) x zero h = refl
put_other d [] (suc k) x (suc i) h = put_other d [] k x i (λ e. h (ap suc e))
put_other d (y ∷ ys) zero x zero h = absurd (h refl)
put_other d (y ∷ ys) zero x (suc i) h = refl
put_other d (y ∷ ys) (suc k) x zero h = refl
put_other d (y ∷ ys) (suc k) x (suc i) h = put_other d ys k x i (λ e. h (ap suc e))
