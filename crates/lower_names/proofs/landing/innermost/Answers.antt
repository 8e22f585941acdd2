use Rattle.std.proofs.Common.{sym}
use Rattle.forec_tree.specs.Plain.{statement}
use Rattle.lower_names.proofs.LandingLemmas.{same_step, fewer}
use Rattle.lower_names.proofs.landing.innermost.Goals as goal

pub loop-one-preserved : goal.loop-one-preserved
loop-one-preserved c = same_step (statement c.args.s.now) (statement c.loop-one.at.now) (statement c.in-Some.one.now) c.loop-one.invariant (sym c.in-Some.ensures)

pub loop-one-smaller : goal.loop-one-smaller
loop-one-smaller c = fewer (statement c.loop-one.at.now) (statement c.in-Some.one.now) (sym c.in-Some.ensures)
