-- What a writer of ticks keeps, and how much room it needs.
use Rattle.std.specs.Prelude.{ℕ, ◌+◌, ◌*◌, Bool, List, map, replicate, ℤ, Option, Some, None, cond}

-- the value in the tick before, if there was one
abbrev pub value_before : Bool → ℤ → Option ℤ
value_before first last = cond first None (Some last)

-- what outputs had before a tick, by their last values: in the first tick nothing
abbrev pub values_before : Bool → List ℤ → List (Option ℤ)
values_before first last = map (value_before first) last

-- before the first tick so many outputs have no value
abbrev pub none_yet : ℕ → List (Option ℤ)
none_yet outputs = replicate outputs None

-- the most bytes of the lines of a tick of so many outputs
abbrev pub tick_lines_room : ℕ → ℕ
tick_lines_room outputs = 22 + 36 * outputs
