use Rattle.slot_board.proofs.Cutting.{Partly}
use Rattle.slot_board.proofs.dealing.cut_core.Given as goal

abbrev pub invariant-loop-k : goal.invariant-loop-k
invariant-loop-k g l = Partly l.fn.core l.fn.ends l.fn.all.items l.k l.mine.items l.all.items
