use Rattle.std.proofs.Common.{◌≡◌, ◌+◌, ◌<◌, ◌≤◌, ◌^◌, [], length, take, drop}
use Rattle.wave_dump.specs.Machine.{TickSpot, Bits, more_bits, number_of_bits, dump_in}
use Rattle.wave_dump.specs.Reading.{dump_from}
use Rattle.wave_dump.proofs.BitLemmas.{AreBits}
use Rattle.wave_dump.proofs.numbers.number.Given as goal

abbrev pub invariant-loop-i : goal.invariant-loop-i
invariant-loop-i l =
    record {
      within : l.at + l.i ≤ length l.bytes;
      bits : AreBits (take l.i (drop l.at l.bytes));
      spells : l.number ≡ number_of_bits (take l.i (drop l.at l.bytes));
      small : l.number < 2 ^ l.i;
      same : (w : TickSpot) → dump_from l.bytes l.at (Bits w []) ≡ dump_in (l.at + l.i) (more_bits w (take l.i (drop l.at l.bytes))) (drop (l.at + l.i) l.bytes);
    }
