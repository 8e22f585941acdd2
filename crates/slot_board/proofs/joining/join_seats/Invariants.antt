use Rattle.slot_board.proofs.Uniting.{AsFar}
use Rattle.slot_board.proofs.joining.join_seats.Given as goal

abbrev pub invariant-loop-k : goal.invariant-loop-k
invariant-loop-k g l = AsFar l.fn.mine.items l.fn.theirs.items l.k l.mine.items l.theirs.items
