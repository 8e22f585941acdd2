use Rattle.std.proofs.Common.{map, drop}
use Rattle.forec_tree.specs.Plain as plain
use Rattle.forec_kernel.specs.Plain as kernel
use Rattle.text_kernel.specs.Lowering as lowering
use Rattle.lower_names.specs.Landings.{called_within}
use Rattle.lower_names.specs.Views.{context_text, seen, Same, next_of}
use Rattle.lower_names.proofs.Doing.{BranchesLeft}
use Rattle.body_lower.proofs.branches.branches.Given as goal

abbrev pub invariant-loop-one : goal.invariant-loop-one
invariant-loop-one l =
    let text = context_text l.context in
    let called = called_within text l.context.deep in
    BranchesLeft text (lowering.lower_branches text called l.context.owner (seen l.state.scope) l.par (next_of l.state) (plain.branches (drop l.one-index l.all)))
    (lowering.lower_branches text called l.context.owner (seen l.fn.state.scope) l.par (next_of l.fn.state) (plain.branches l.all)) (map kernel.branch l.launches.items) l.fn.state l.state
    × Same l.fn.state.scope l.state.scope
