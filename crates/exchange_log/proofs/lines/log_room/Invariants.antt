use Rattle.std.proofs.Common.{◌≡◌, ◌≤◌, ◌-◌, ◌^◌, min, max, map, drop}
use Rattle.forec_kernel.specs.Shapes.{plain_thread}
use Rattle.exchange_log.specs.Lines.{greatest_room}
use Rattle.exchange_log.proofs.lines.log_room.Given as goal

abbrev pub invariant-loop-t : goal.invariant-loop-t
invariant-loop-t l =
    record {
      least : 128 ≤ l.room;
      fits : l.room ≤ 2 ^ 64 - 1;
      room : min (max l.room (greatest_room (map plain_thread (drop l.t l.shape.threads.items)))) (2 ^ 64 - 1) ≡ min (greatest_room (map plain_thread l.shape.threads.items)) (2 ^ 64 - 1);
    }
