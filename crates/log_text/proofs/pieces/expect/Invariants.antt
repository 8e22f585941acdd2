use Rattle.std.proofs.Common.{◌+◌, take}
use Rattle.log_text.specs.Pieces.{StandsTo}
use Rattle.log_text.proofs.pieces.expect.Given as goal

abbrev pub invariant-loop-i : goal.invariant-loop-i
invariant-loop-i l = StandsTo l.bytes l.at (take l.i l.piece) (l.at + l.i)
