use Rattle.std.proofs.Common.{◌≡◌, length, take}
use Rattle.log_text.proofs.ValueLemmas.{Marked}
use Rattle.log_text.proofs.values.read_copies.Given as goal

abbrev pub invariant-loop-i : goal.invariant-loop-i
invariant-loop-i l = record {
  same : length l.copies ≡ length l.initial.copies;
  read : Marked l.bytes l.at (take l.i l.copies) l.end;
}
