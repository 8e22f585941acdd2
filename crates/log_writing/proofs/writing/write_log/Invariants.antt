use Rattle.std.proofs.Common.{◌≡◌, ◌≤◌, ◌-◌, length}
use Rattle.exchange_meaning.specs.LogLines.{log_lines_from}
use Rattle.exchange_log.specs.Posted.{log_in}
use Rattle.log_writing.specs.Sending.{SendsBehind}
use Rattle.log_writing.proofs.writing.write_log.Given as goal

abbrev pub invariant-loop-thread : goal.invariant-loop-thread
invariant-loop-thread g l = record {
  some : 1 ≤ l.thread;
  within : l.thread ≤ l.threads;
  line : length l.room.line.items ≡ length l.fn.room.line.items;
  sent : SendsBehind (g.K.Sink.held l.fn.out) (g.K.Sink.held l.out) l.fn.room.waiting.items l.room.waiting.items (log_lines_from 1 (l.thread - 1) (log_in l.port.mail));
  later : g.K.Sink.faults l.fn.out ≤ g.K.Sink.faults l.out;
}

abbrev pub decreases-loop-thread : goal.decreases-loop-thread
decreases-loop-thread g l = l.threads - l.thread
