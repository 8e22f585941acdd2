-- What is measured of the threads below text: their words, or how many statements nest in them.
use Rattle.std.specs.Prelude.{◌≡◌, ◌-◌, ◌^◌, ℕ, min, Option, List}
use Rattle.std.specs.declared.boxed.Box.{Box}
use Rattle.std.specs.declared.alloc.Global as alloc
use Rattle.forec_tree.specs.declared.tree.Stmt.{Stmt}
use Rattle.forec_tree.specs.declared.tree.Branch.{Branch}
use Rattle.forec_tree.specs.Plain as plain
use Rattle.forec_tree.specs.Terms.{Statements}
use Rattle.text_sizes.specs.declared.span.Span.{Span}
use Rattle.text_sizes.specs.declared.widths.Measure.{Measure}
use Rattle.text_sizes.specs.declared.widths.Measure.TheVariants as measure
use Rattle.text_sizes.specs.TermCounts.{slots_all}
use Rattle.text_sizes.specs.Spans.{most, most_all, most_perhaps, most_branches, words_by, levels_by, block_levels, slots_at, widest_at, levels_at, deepest_at}

-- the measure of a branch that calls a function with so many arguments, that of a block, and the greatest below a function
abbrev pub call_by : Measure → List Span → ℕ → ℕ → ℕ
call_by measure.Words table = words_by (slots_at table)
call_by measure.Levels table = levels_by (levels_at table)

abbrev pub block_by : Measure → List Span → Statements → ℕ
block_by measure.Words table = slots_all (slots_at table)
block_by measure.Levels table = block_levels (levels_at table)

abbrev pub below_by : Measure → List Span → ℕ → ℕ
below_by measure.Words table = widest_at table
below_by measure.Levels table = deepest_at table

-- the greatest measure of a thread below, up to the greatest number of 64 bits: of a statement, an optional one, statements, branches
abbrev pub IsMostBelow : Measure → List Span → Stmt → ℕ → Type 0
IsMostBelow m table s n = n ≡ min (most (call_by m table) (block_by m table) (below_by m table) (plain.statement s)) (2 ^ 64 - 1)

abbrev pub IsMostBelowOptional : Measure → List Span → Option (Box Stmt alloc.Global) → ℕ → Type 0
IsMostBelowOptional m table s n = n ≡ min (most_perhaps (call_by m table) (block_by m table) (below_by m table) (plain.perhaps_of s)) (2 ^ 64 - 1)

abbrev pub IsMostBelowAll : Measure → List Span → List Stmt → ℕ → Type 0
IsMostBelowAll m table list n = n ≡ min (most_all (call_by m table) (block_by m table) (below_by m table) (plain.statements list)) (2 ^ 64 - 1)

abbrev pub IsMostBelowBranches : Measure → List Span → List Branch → ℕ → Type 0
IsMostBelowBranches m table list n = n ≡ min (most_branches (call_by m table) (block_by m table) (below_by m table) (plain.branches list)) (2 ^ 64 - 1)
