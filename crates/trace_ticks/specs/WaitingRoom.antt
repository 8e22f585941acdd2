-- Room for lines that wait.
use Rattle.std.specs.Prelude.{◌≡◌, ◌+◌, ◌≤◌, ◌++◌, ℕ, List, length, vec_len, vec_capacity}
use Rattle.trace_ticks.specs.declared.format.Format.TheVariants as format
use Rattle.trace_ticks.specs.declared.waiting.Waiting.{Waiting}

-- so many bytes more fit
abbrev pub HasRoomFor : Waiting → ℕ → Type 0
HasRoomFor w n = vec_len w.bytes + n ≤ vec_capacity w.bytes

-- the lines of any tick fit
abbrev pub HasTickRoom : Waiting → Type 0
HasTickRoom w = HasRoomFor w (length w.line.items + 96)

-- lines are written as in a report
abbrev pub IsPlain : Waiting → Type 0
IsPlain w = (names : List (List ℕ)) × (w.format ≡ format.Report names)

-- these bytes wait too, with room as before
pub record AddsLines (old new : Waiting) (bytes : List ℕ) : Type 0 where
  pub bytes_are : new.bytes.items ≡ old.bytes.items ++ bytes
  pub line : length new.line.items ≡ length old.line.items
  pub capacity : vec_capacity old.bytes ≤ vec_capacity new.bytes

-- these bytes wait too, and the rest is as before
pub record GainsBytes (old new : Waiting) (bytes : List ℕ) : Type 0 where
  pub bytes_are : new.bytes.items ≡ old.bytes.items ++ bytes
  pub format : new.format ≡ old.format
  pub line : length new.line.items ≡ length old.line.items
  pub capacity : vec_capacity old.bytes ≤ vec_capacity new.bytes
