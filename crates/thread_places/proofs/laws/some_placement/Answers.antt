use Rattle.thread_places.proofs.Unique.{some_placement}
use Rattle.thread_places.proofs.laws.some_placement.Goals as goal

pub returns : goal.returns
returns c = some_placement
