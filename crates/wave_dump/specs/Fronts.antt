-- How far bytes are the front of a dump.
use Rattle.std.specs.Prelude.{◌≡◌, ℕ, ◌≤◌, List, ◌++◌, length, take, Result, Ok, Err}
use Rattle.wave_dump.specs.Wave.{PlainDump, IsDump, wave_text}

-- some dump begins so
abbrev pub IsDumpFront : List ℕ → Type 0
IsDumpFront p = (d : PlainDump) × (rest : List ℕ) × IsDump d × (wave_text d ≡ p ++ rest)

-- so many bytes are the longest front of these that some dump begins with
pub record IsLongest (bytes : List ℕ) (at : ℕ) : Type 0 where
  pub within : at ≤ length bytes
  pub front : IsDumpFront (take at bytes)
  pub most : (m : ℕ) → m ≤ length bytes → IsDumpFront (take m bytes) → m ≤ at

-- what the answer tells of the bytes: the dump that they spell, or how many of them some dump begins with
abbrev pub IsAnswer : List ℕ → Result PlainDump ℕ → Type 0
IsAnswer x (Ok d) = (x ≡ wave_text d) × IsDump d
IsAnswer x (Err at) = IsLongest x at
