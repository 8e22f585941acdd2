use Rattle.std.proofs.Common.{◌≡◌, ◌≤◌, ◌+◌, ◌*◌, ◌++◌, length, take, drop}
use Rattle.exchange_meaning.specs.LogLines.{marked_numbers}
use Rattle.exchange_log.proofs.lines.put_copies.Given as goal

abbrev pub invariant-loop-i : goal.invariant-loop-i
invariant-loop-i l =
    record {
      room : l.end ≤ l.at + 13 * l.i;
      same_length : length l.buffer ≡ length l.fn.buffer;
      text : take l.end l.buffer ++ marked_numbers (drop l.i l.copies) ≡ take l.at l.fn.buffer ++ marked_numbers l.copies;
    }
