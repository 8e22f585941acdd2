use Rattle.std.proofs.Common.{◌≡◌, ◌-◌, ◌++◌, length, drop}
use Rattle.wave_dump.specs.Wave.{low_bits}
use Rattle.wave_dump.proofs.waver.bits_of.Given as goal

abbrev pub invariant-loop-i : goal.invariant-loop-i
invariant-loop-i l =
    record {
      count : length l.digits ≡ 32;
      text : low_bits (32 - l.i) l.left ++ drop (32 - l.i) l.digits ≡ low_bits 32 l.word;
    }
