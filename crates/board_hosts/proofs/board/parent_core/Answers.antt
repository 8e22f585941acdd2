use Rattle.std.proofs.Common.{sym, ap, ◌∙◌, arith}
use Rattle.std.specs.Prelude.{slice_get}
use Rattle.board_hosts.proofs.Branches.{branch_parent, branch_fine, one_parent}
use Rattle.board_hosts.proofs.board.parent_core.Goals as goal

pub unreachable-requires : goal.unreachable-requires
unreachable-requires c =
    let fine = branch_fine c.args.code.now c.shape.ensures.valid c.args.mailbox c.args.placement.now.places c.requires.placed c.requires.within in
    let is = branch_parent c.args.code.now c.shape.result.now c.args.mailbox c.index.result.now c.shape.ensures.same fine.1 c.index.ensures in
    c.in_default.not-Some fine.0.parent (sym is ∙ fine.0.is)

pub core-requires : goal.core-requires
core-requires c =
    let fine = branch_fine c.args.code.now c.shape.ensures.valid c.args.mailbox c.args.placement.now.places c.requires.placed c.requires.within in
    let is = branch_parent c.args.code.now c.shape.result.now c.args.mailbox c.index.result.now c.shape.ensures.same fine.1 c.index.ensures in
    let same = one_parent c.in-Some.parent fine.0.parent (sym c.in-Some.is ∙ sym is ∙ fine.0.is) in
    let below = fine.0.below in
    let within = c.requires.within in
    omega (arith, same, below, within)

pub returns : goal.returns
returns c t branch =
    let fine = branch_fine c.args.code.now c.shape.ensures.valid c.args.mailbox c.args.placement.now.places c.requires.placed c.requires.within in
    let is = branch_parent c.args.code.now c.shape.result.now c.args.mailbox c.index.result.now c.shape.ensures.same fine.1 c.index.ensures in
    let same = one_parent c.in-Some.parent t (sym c.in-Some.is ∙ sym is ∙ branch) in
    ap (λ n. slice_get c.args.placement.now.places n) (sym same) ∙ c.core.ensures.value
