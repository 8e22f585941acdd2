use Rattle.std.proofs.Common.{◌≡◌, length, take}
use Rattle.log_text.proofs.ValueLemmas.{Spaced}
use Rattle.log_text.proofs.values.read_args.Given as goal

abbrev pub invariant-loop-i : goal.invariant-loop-i
invariant-loop-i l = record {
  same : length l.args ≡ length l.initial.args;
  read : Spaced l.bytes l.at (take l.i l.args) l.end;
}
