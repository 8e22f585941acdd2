use Rattle.thread_rooms.specs.Depths.{IsMost}
use Rattle.thread_rooms.proofs.depths.greatest.Given as goal

abbrev pub invariant-loop-depth : goal.invariant-loop-depth
invariant-loop-depth l = IsMost l.depths l.depth-index l.most
