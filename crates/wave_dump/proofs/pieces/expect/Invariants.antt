use Rattle.std.proofs.Common.{◌≡◌, ◌+◌, ◌≤◌, length}
use Rattle.wave_dump.specs.Machine.{DumpStage, literal}
use Rattle.wave_dump.specs.Reading.{dump_from}
use Rattle.wave_dump.proofs.FromLemmas.{left_of}
use Rattle.wave_dump.proofs.pieces.expect.Given as goal

abbrev pub invariant-loop-i : goal.invariant-loop-i
invariant-loop-i l =
    record {
      within : l.at + l.i ≤ length l.bytes;
      same : (s : DumpStage) → dump_from l.bytes l.at (literal l.piece s) ≡ dump_from l.bytes (l.at + l.i) (left_of l.piece l.i s);
    }
