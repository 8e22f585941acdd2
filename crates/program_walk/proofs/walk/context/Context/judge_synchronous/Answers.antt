use Rattle.std.proofs.Common.{sym, append-nil}
use Rattle.forec_tree.specs.Findings.{Synchronous}
use Rattle.program_walk.specs.Views.{judging_in}
use Rattle.program_walk.specs.Walk.{notes_of}
use Rattle.program_walk.proofs.UseRules.{single}
use Rattle.program_walk.proofs.WalkLemmas.{walked_one}
use Rattle.program_walk.proofs.walk.context.Context.judge_synchronous.Goals as goal

pub returns : goal.returns
returns c =
    let j = judging_in c.args.self.now in
    let old = c.args.notes.now in
    walked_one j (Synchronous c.args.place) (notes_of old) _ (single j (Synchronous c.args.place) old.least _ c.keep_fault.ensures) (sym (append-nil _))
