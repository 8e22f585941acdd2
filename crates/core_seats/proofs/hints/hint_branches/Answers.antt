use Rattle.core_seats.proofs.RoundLemmas.{same_rope, same_then}
use Rattle.core_seats.proofs.hints.hint_branches.Goals as goal

pub loop-k-init : goal.loop-k-init
loop-k-init g c = same_rope c.args.rope.now

pub loop-k-preserved : goal.loop-k-preserved
loop-k-preserved g c = same_then c.args.rope.now c.loop-k.rope c.hint.new.self c.loop-k.invariant c.hint.ensures.same
