use Rattle.std.proofs.Common.{refl}
use Rattle.forec_tree.specs.Findings.{in_bound}
use Rattle.program_walk.specs.Views.{judging_in}
use Rattle.program_walk.specs.Walk.{notes_of}
use Rattle.program_walk.proofs.WalkLemmas.{walked_early, bound_effects}
use Rattle.program_walk.proofs.walk.context.Context.bound.Goals as goal

pub returns : goal.returns
returns c =
    let j = judging_in c.args.self.now in
    let old = c.args.notes.now in
    walked_early j (in_bound c.args.bound) (notes_of old) _ (bound_effects c.args.bound) c.judge_bound.ensures refl
