-- Numbers after a number.
use Rattle.std.proofs.Common.{◌≡◌, ℕ, suc, ◌+◌, ◌-◌, ◌<◌, List, [], ◌∷◌, ◌++◌, refl, sym, ap, ◌∙◌, arith, append_assoc, append-nil, ◌≤◌}
use Rattle.trace_tickers.specs.Orders.{next, order_numbers}

-- none are left
pub none_left : (counter : ℕ) (list : List ℕ) (x : ℕ) → 64 ≤ counter → list ++ order_numbers (64 - counter) x ≡ list
none_left counter list x h =
    let none : 64 - counter ≡ 0 = omega (arith, h) in
    ap (λ n. list ++ order_numbers n x) none ∙ append-nil list

numbers_step : (n x : ℕ) → order_numbers (suc n) x ≡ next x ∷ order_numbers n (next x)
numbers_step n x = refl

-- one more of those that are left
pub moved : (counter : ℕ) (list : List ℕ) (x : ℕ) → counter < 64 → (list ++ next x ∷ []) ++ order_numbers (64 - (counter + 1)) (next x) ≡ list ++ order_numbers (64 - counter) x
moved counter list x h =
    let left : 64 - counter ≡ suc (64 - (counter + 1)) = omega (arith, h) in
    append_assoc list (next x ∷ []) (order_numbers (64 - (counter + 1)) (next x))
    ∙ ap (λ ns. list ++ ns) (sym (ap (λ n. order_numbers n x) left ∙ numbers_step (64 - (counter + 1)) x))
