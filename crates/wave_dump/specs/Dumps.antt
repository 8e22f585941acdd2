-- A dump without where it lies in memory.
use Rattle.std.specs.Prelude.{ℤ, List, map}
use Rattle.std.specs.declared.vec.Vec.{Vec}
use Rattle.std.specs.declared.alloc.Global.{Global}
use Rattle.wave_dump.specs.declared.dump.Dump.{Dump}
use Rattle.wave_dump.specs.Wave.{PlainDump}
use Rattle.wave_dump.specs.Reading.{dump_with}

-- the values of each tick
abbrev pub plain_ticks : List (Vec ℤ Global) → List (List ℤ)
plain_ticks ticks = map (λ t. t.items) ticks

abbrev pub plain_dump : Dump → PlainDump
plain_dump d = dump_with d.names (plain_ticks d.ticks.items) d.ending.items
