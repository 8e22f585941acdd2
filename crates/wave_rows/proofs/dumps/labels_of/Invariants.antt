use Rattle.std.proofs.Common.{◌≡◌, length}
use Rattle.wave_rows.proofs.dumps.labels_of.Given as goal

abbrev pub invariant-loop-name : goal.invariant-loop-name
invariant-loop-name l = length l.labels ≡ l.name-index
