use Rattle.std.proofs.Common.{subst}
use Rattle.one_core.specs.Single.{Single, single, single_code, HasRootJobs}
use Rattle.one_core.specs.Told.{HaveTalked}
use Rattle.one_core.proofs.TickRun.{all_talked}
use Rattle.one_core.proofs.single.OneCore.talks.Goals as goal

pub returns : goal.returns
returns c = subst (λ (o : Single). (jobs : _) → HasRootJobs o jobs → HaveTalked (single_code o) jobs) c.self.view_is (all_talked (single c.self.inside.calls c.self.inside.root c.self.inside.live) c.self.invariant)
