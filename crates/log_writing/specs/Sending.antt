-- Bytes on their way to a sink.
use Rattle.std.specs.Prelude.{◌≡◌, ◌+◌, ◌≤◌, ℕ, List, ◌++◌, Option, vec_len, vec_capacity, codes, decimal}
use Rattle.std.specs.Io.KnownBytes.{Appends}
use Rattle.std.specs.declared.alloc.Global.{Global}
use Rattle.std.specs.declared.vec.Vec.{Vec}

-- of bytes that waited and others behind them a front was sent, and the rest waits
abbrev pub SendsBehind : Option (List ℕ) → Option (List ℕ) → (waited waits added : List ℕ) → Type 0
SendsBehind held_old held_new waited waits added = (sent : List ℕ) × Appends held_old held_new sent × (waited ++ added ≡ sent ++ waits)

-- so many bytes more fit
abbrev pub HasSpace : Vec ℕ Global → ℕ → Type 0
HasSpace v n = vec_len v + n ≤ vec_capacity v

-- the first line of a thread that was given so many jobs
abbrev pub head_line : ℕ → ℕ → List ℕ
head_line t jobs = codes "thread " ++ decimal t ++ codes " jobs " ++ decimal jobs ++ codes "\n"
