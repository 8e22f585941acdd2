-- A table of values of functions, filled in an order.
use Rattle.std.specs.Prelude.{ℕ, ◌<◌, ◌≡◌, true, false, List, length, take, slice_index_or}
use Rattle.forec_tree.specs.Faults.{is_in}
pub use Rattle.loop_check.specs.Numbered.{put_entry}

-- right at the first so many of an order, and the default elsewhere
pub record Agrees {A : Type 0} (default : A) (value : ℕ → A) (order : List ℕ) (n : ℕ) (table : ℕ → A) : Type 0 where
  pub inside : (g : ℕ) → is_in g (take n order) ≡ true → table g ≡ value g
  pub outside : (g : ℕ) → is_in g (take n order) ≡ false → table g ≡ default

-- an order in which each function's value follows from those before it
pub record Settles {A : Type 0} (default : A) (step : (ℕ → A) → ℕ → A) (value : ℕ → A) (order : List ℕ) : Type 0 where
  pub next : (k : ℕ) (a : ℕ → A) → k < length order → Agrees default value order k a → step a (slice_index_or order k 0) ≡ value (slice_index_or order k 0)
  pub rest : (h : ℕ) → is_in h order ≡ false → value h ≡ default
