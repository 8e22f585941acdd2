use Rattle.thread_code.specs.Plain.{plain_code, plain_block}
use Rattle.thread_rooms.specs.Depths.{HoldsDepths, unknown_in}
use Rattle.thread_rooms.proofs.depths.deepest.Given as goal

abbrev pub invariant-loop-depths : goal.invariant-loop-depths
invariant-loop-depths l = HoldsDepths (plain_code l.code) (plain_block l.block) l.depths.items

abbrev pub decreases-loop-depths : goal.decreases-loop-depths
decreases-loop-depths l = unknown_in l.depths.items
