use Rattle.std.proofs.Common.{◌≡◌, ◌-◌, ◌≤◌, [], length}
use Rattle.wave_dump.specs.Machine.{Vars, Dollar}
use Rattle.wave_dump.specs.Reading.{dump_from}
use Rattle.wave_dump.proofs.names.read_names.Given as goal

abbrev pub invariant-loop-alloc : goal.invariant-loop-alloc
invariant-loop-alloc l =
    record {
      within : l.at ≤ length l.bytes;
      few : length l.names ≤ 64;
      same : dump_from l.bytes l.start (Vars []) ≡ dump_from l.bytes l.at (Dollar l.names);
    }

abbrev pub decreases-loop-alloc : goal.decreases-loop-alloc
decreases-loop-alloc l = length l.bytes - l.at
