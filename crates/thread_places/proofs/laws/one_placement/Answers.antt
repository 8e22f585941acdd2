use Rattle.thread_places.proofs.Unique.{one_placement}
use Rattle.thread_places.proofs.laws.one_placement.Goals as goal

pub returns : goal.returns
returns c = one_placement
