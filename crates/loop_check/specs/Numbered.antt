-- Tables of values by the numbers of names.
use Rattle.std.specs.Prelude.{ℕ, ◌==◌, cond}

-- the value at a number `g` after one was put at `id`
abbrev pub put_entry : {A : Type 0} → ℕ → ℕ → A → A → A
put_entry id g value before = cond (id == g) value before
