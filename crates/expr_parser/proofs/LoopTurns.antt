-- A loop that counts up to n, and a function that goes down by the turns that are left.
use Rattle.std.proofs.Common.{◌≡◌, ℕ, suc, ◌+◌, ◌-◌, ◌<◌, refl, subst, arith}

left_at : (n at : ℕ) → at < n → n - at ≡ suc (n - (at + 1))
left_at n at below = omega arith

-- what holds before a turn is said of one turn and those that are left after it
pub next_turn : {X : Type 0} {x : X} (f : ℕ → X) (n at : ℕ) → at < n → x ≡ f (n - at) → x ≡ f (suc (n - (at + 1)))
next_turn {X} {x} f n at below e = subst (λ (left : ℕ). x ≡ f left) (left_at n at below) e

counted : (n : ℕ) → 0 < n → n ≡ suc (n - 1)
counted n some = omega arith

pub first_turn : {X : Type 0} (f : ℕ → X) (n : ℕ) → 0 < n → f n ≡ f (suc (n - 1))
first_turn f n some = subst (λ (m : ℕ). f n ≡ f m) (counted n some) refl
