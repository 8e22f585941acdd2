-- What a reader of a part of a dump gives.
use Rattle.std.specs.Prelude.{◌≡◌, ℕ, Bool, suc, ◌+◌, List, [], ◌∷◌, ◌++◌, map, take, drop, ℤ, Option, Some, None, Result, Ok, Err, cond, codes, ⊤}
use Rattle.std.specs.Int.{w32, cast_signed}
use Rattle.wave_dump.specs.declared.fault.WaveFault.{WaveFault}
use Rattle.wave_dump.specs.declared.fault.WaveFault.TheVariants as fault
use Rattle.wave_dump.specs.Wave.{PlainDump}
use Rattle.wave_dump.specs.Writing.{value_before}
use Rattle.wave_dump.specs.Machine.{TickSpot, DumpStage, Body, Letter, literal, can_take, between_ticks, dump_in}

-- the answer on the bytes from a place on, where this state is reached there
abbrev pub dump_from : List ℕ → ℕ → DumpStage → Result PlainDump ℕ
dump_from bytes at s = dump_in at (Some s) (drop at bytes)

-- the answer is what is left to read, or the fault that was told
abbrev pub Continues : {X : Type 0} → Result X WaveFault → Result PlainDump ℕ → (X → Result PlainDump ℕ) → Type 0
Continues (Ok x) answer next = answer ≡ next x
Continues (Err (fault.Bad at)) answer next = answer ≡ Err at
Continues (Err fault.OutOfMemory) answer next = ⊤

-- the bits of this value were read: it may be followed by the output that has it, where some output may have it
abbrev pub dump_behind_bits : List ℕ → ℕ → TickSpot → ℤ → Result PlainDump ℕ
dump_behind_bits bytes at w v = dump_in at (cond (can_take w.left v) (Some (literal (codes " ") (Letter w v))) None) (drop at bytes)

-- between two ticks: a further one, or the ending
abbrev pub dump_between_at : ℕ → List (List ℕ) → List (List ℤ) → List ℕ → Result PlainDump ℕ
dump_between_at at names ticks [] = Err at
dump_between_at at names ticks (b ∷ x) = dump_in (suc at) (between_ticks names ticks b) x

abbrev pub dump_between : List ℕ → ℕ → List (List ℕ) → List (List ℤ) → Result PlainDump ℕ
dump_between bytes at names ticks = dump_between_at at names ticks (drop at bytes)

abbrev pub spot_with : List (List ℕ) → List (List ℤ) → List ℤ → List (Option ℤ) → TickSpot
spot_with names ticks now left = record { names = names; ticks = ticks; now = now; left = left }

abbrev pub dump_with : List (List ℕ) → List (List ℤ) → List ℕ → PlainDump
dump_with names ticks e = record { names = names; ticks = ticks; ending = e }

-- what outputs had before a tick: in the first one nothing, else the values of these bits
abbrev pub olds_at : Bool → List ℕ → List (Option ℤ)
olds_at first [] = []
olds_at first (n ∷ ns) = value_before first (cast_signed w32 n) ∷ olds_at first ns

-- the values whose bits spell these numbers
abbrev pub signed_words : List ℕ → List ℤ
signed_words words = map (cast_signed w32) words

-- in a tick, behind the value that a word spells, of output k of those that are left: those before it keep theirs
abbrev pub body_behind : List (List ℕ) → List (List ℤ) → List ℤ → Bool → List ℕ → ℕ → ℕ → DumpStage
body_behind names ticks now first left k word =
    Body (spot_with names ticks (now ++ (signed_words (take k left) ++ cast_signed w32 word ∷ [])) (olds_at first (drop (k + 1) left)))
