-- Orders of steps, by their numbers.
use Rattle.std.specs.Prelude.{ℕ, zero, suc, ◌+◌, ◌*◌, ◌%◌, ◌^◌, List, [], ◌∷◌}

abbrev pub next : ℕ → ℕ
next x = (1103515245 * x + 12345) % 2 ^ 31

-- so many numbers after x
abbrev pub order_numbers : ℕ → ℕ → List ℕ
order_numbers zero x = []
order_numbers (suc n) x = next x ∷ order_numbers n (next x)

-- the order with this number
abbrev pub order_of : ℕ → List ℕ
order_of number = order_numbers 64 (number % 2 ^ 31)
