use Rattle.std.proofs.Common.{◌≡◌, ◌≤◌, ◌-◌, ◌++◌, length, take}
use Rattle.exchange_meaning.specs.LogLines.{exchange_lines}
use Rattle.exchange_log.specs.Posted.{log_in}
use Rattle.log_writing.specs.Sending.{SendsBehind, head_line}
use Rattle.log_writing.proofs.writing.write_thread.Given as goal

abbrev pub invariant-loop-pair : goal.invariant-loop-pair
invariant-loop-pair g l = record {
  within : l.pair ≤ l.jobs;
  line : length l.room.line.items ≡ length l.fn.room.line.items;
  sent : SendsBehind (g.K.Sink.held l.fn.out) (g.K.Sink.held l.out) l.fn.room.waiting.items l.room.waiting.items (head_line l.thread l.jobs ++ exchange_lines (take l.pair (log_in l.port.mail l.thread)));
  later : g.K.Sink.faults l.fn.out ≤ g.K.Sink.faults l.out;
}

abbrev pub decreases-loop-pair : goal.decreases-loop-pair
decreases-loop-pair g l = l.jobs - l.pair
