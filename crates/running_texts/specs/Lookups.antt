-- Looking a thread's copies up by their variables.
use Rattle.std.specs.Prelude.{ℕ, ◌<◌, ◌≤◌, ◌≡◌, true, false, pos, List, length, get_or}
use Rattle.forec_kernel.specs.declared.shape.VarCopy.{VarCopy}
use Rattle.running_texts.specs.declared.lookup.Lookup.{Lookup}

-- the copy of a variable that a thread doesn't use
abbrev pub absent_copy : VarCopy
absent_copy = record { value = pos 0; modified = false }

-- no number of a list is below one before it
abbrev pub IsAscending : List ℕ → Type 0
IsAscending us = (i j : ℕ) → i ≤ j → j < length us → get_or us i 0 ≤ get_or us j 0

-- the first place of a list at which a number isn't below this one
pub record IsLowerBound (v : ℕ) (us : List ℕ) (at : ℕ) : Type 0 where
  pub within : at ≤ length us
  pub below : (i : ℕ) → i < at → get_or us i 0 < v
  pub above : (i : ℕ) → at ≤ i → i < length us → v ≤ get_or us i 0

-- what is noted of the variables is so
abbrev pub IsLookup : Lookup → Type 0
IsLookup l = l.ascending ≡ true → IsAscending l.uses.now
