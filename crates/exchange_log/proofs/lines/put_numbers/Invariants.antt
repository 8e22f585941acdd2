use Rattle.std.proofs.Common.{◌≡◌, ◌≤◌, ◌+◌, ◌*◌, ◌++◌, length, take, drop}
use Rattle.exchange_meaning.specs.LogLines.{spaced_numbers}
use Rattle.exchange_log.proofs.lines.put_numbers.Given as goal

abbrev pub invariant-loop-i : goal.invariant-loop-i
invariant-loop-i l =
    record {
      room : l.end ≤ l.at + 12 * l.i;
      same_length : length l.buffer ≡ length l.fn.buffer;
      text : take l.end l.buffer ++ spaced_numbers (drop l.i l.numbers) ≡ take l.at l.fn.buffer ++ spaced_numbers l.numbers;
    }
