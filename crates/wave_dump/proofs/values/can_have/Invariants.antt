use Rattle.std.proofs.Common.{◌≡◌, false, drop}
use Rattle.std.specs.Int.{w32, cast_signed}
use Rattle.wave_dump.specs.Machine.{can_take}
use Rattle.wave_dump.specs.Reading.{olds_at}
use Rattle.wave_dump.proofs.values.can_have.Given as goal

abbrev pub invariant-loop-old : goal.invariant-loop-old
invariant-loop-old l = can_take (olds_at false l.left) (cast_signed w32 l.word) ≡ can_take (olds_at false (drop l.old-index l.left)) (cast_signed w32 l.word)
