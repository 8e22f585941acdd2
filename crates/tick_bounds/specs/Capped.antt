-- Bounds as far as they matter: past the greatest budget they are one number.
use Rattle.std.specs.Prelude.{ℕ, ◌+◌, min, cond, nat_lt, Option, Some, None, List, unwrap_or, slice_get, slice_index_or}
use Rattle.forec_base.specs.declared.limits.TheConstants.{MAX_BUDGET}
use Rattle.tick_bounds.specs.Bound.{Bounds}

-- a bound that can be a budget; None where it is past the greatest one
abbrev pub as_budget : ℕ → Option ℕ
as_budget n = cond (nat_lt MAX_BUDGET n) None (Some n)

-- at most one past the greatest budget
abbrev pub capped : ℕ → ℕ
capped n = min n (MAX_BUDGET + 1)

-- bounds by number: 0 past the end, and where none is known
abbrev pub at_table : List ℕ → ℕ → ℕ
at_table table t = slice_index_or table t 0

abbrev pub if_known : Option (Option ℕ) → ℕ
if_known None = 0
if_known (Some bound) = unwrap_or bound 0

abbrev pub known_at : List (Option ℕ) → ℕ → ℕ
known_at table g = if_known (slice_get table g)

abbrev pub by_tables : List (Option ℕ) → List ℕ → Bounds
by_tables functions threads = record { function = known_at functions; thread = at_table threads }
