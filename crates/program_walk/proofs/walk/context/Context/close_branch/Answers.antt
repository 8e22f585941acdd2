use Rattle.std.proofs.Common.{refl}
use Rattle.forec_tree.specs.Findings.{Closes}
use Rattle.program_walk.specs.Views.{judging_in}
use Rattle.program_walk.specs.Walk.{notes_of}
use Rattle.program_walk.proofs.WalkLemmas.{walked_one, quiet}
use Rattle.program_walk.proofs.walk.context.Context.close_branch.Goals as goal

pub returns : goal.returns
returns c =
    let j = judging_in c.args.self.now in
    let old = c.args.notes.now in
    walked_one j Closes (notes_of old) _ (quiet j Closes old.least refl) c.in_ok-push.ensures.items
