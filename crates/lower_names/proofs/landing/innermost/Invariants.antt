use Rattle.forec_tree.specs.Plain.{statement}
use Rattle.lower_names.specs.Landings.{SameKernel}
use Rattle.lower_names.proofs.LandingLemmas.{groups}
use Rattle.lower_names.proofs.landing.innermost.Given as goal

abbrev pub invariant-loop-one : goal.invariant-loop-one
invariant-loop-one l = SameKernel (statement l.fn.s) (statement l.at)

abbrev pub decreases-loop-one : goal.decreases-loop-one
decreases-loop-one l = groups (statement l.at)
