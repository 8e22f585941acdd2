use Rattle.core_rows.proofs.RopePairLemmas.{one_placement}
use Rattle.core_rows.proofs.hinted.both.Goals as goal

pub returns : goal.returns
returns c = one_placement c.args.ropes.items c.pop.new.self.items c.pop-2.new.self.items c.in_ok-first.first c.in_ok-second.second c.requires c.in_ok-second.ensures.items c.in_ok-first.ensures.items
