use Rattle.std.proofs.Common.{◌≡◌, ◌≤◌, ◌+◌, ◌++◌, length, take, drop}
use Rattle.wave_dump.specs.Dumps.{plain_ticks}
use Rattle.dump_report.specs.Calls.{Sends}
use Rattle.dump_report.specs.Told.{told_ticks}
use Rattle.dump_report.proofs.telling.tell_ticks.Given as goal

abbrev pub invariant-loop-i : goal.invariant-loop-i
invariant-loop-i g l =
    record {
      within : l.end ≤ length l.room;
      sends : Sends (g.K.Sink.held l.fn.out) (g.K.Sink.held l.out) (told_ticks 1 l.names (plain_ticks l.ticks))
          (take l.end l.room ++ told_ticks (l.i + 1) l.names (plain_ticks (drop l.i l.ticks)));
      later : g.K.Sink.faults l.fn.out ≤ g.K.Sink.faults l.out;
    }
