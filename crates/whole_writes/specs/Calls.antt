-- What calls over objects that may not tell what they hold say of them.
use Rattle.std.specs.Prelude.{◌≡◌, ℕ, List, ◌++◌, Option}
use Rattle.std.specs.Io.KnownBytes.{Appends}

-- a front of the bytes was added
abbrev pub AppendsFront : Option (List ℕ) → Option (List ℕ) → List ℕ → Type 0
AppendsFront old new bytes = (done : List ℕ) × (rest : List ℕ) × (bytes ≡ done ++ rest) × Appends old new done
