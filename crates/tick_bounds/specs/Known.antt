-- A table of the bounds of int functions that is filled bit by bit.
use Rattle.std.specs.Prelude.{ℕ, ◌≡◌, Bool, true, is_some, Option, None, List, length, unwrap_or, slice_get}
use Rattle.forec_kernel.specs.Shapes.{PlainKernel}
use Rattle.tick_bounds.specs.Bound.{function_bound}
use Rattle.tick_bounds.specs.Capped.{capped, known_at}

abbrev pub has_bound : List (Option ℕ) → ℕ → Bool
has_bound table g = is_some (unwrap_or (slice_get table g) None)

-- the table tells a function's bound
abbrev pub HoldsBounds : PlainKernel → List (Option ℕ) → ℕ → Type 0
HoldsBounds k table g = known_at table g ≡ capped (function_bound k g)

-- the bounds in it are right
pub record IsRight (k : PlainKernel) (table : List (Option ℕ)) : Type 0 where
  pub long : length table ≡ length k.functions
  pub each : (g : ℕ) → has_bound table g ≡ true → HoldsBounds k table g
