use Rattle.std.proofs.Common.{◌≡◌, drop}
use Rattle.forec_tree.specs.Plain as plain
use Rattle.forec_tree.specs.Pauses as pauses
use Rattle.loop_check.specs.Views.{indexed_text}
use Rattle.loop_check.specs.Known.{known}
use Rattle.loop_check.proofs.pauses.+certain.Given as goal

abbrev pub invariant-any_certain-loop-s : goal.invariant-any_certain-loop-s
invariant-any_certain-loop-s l =
    pauses.some_certain (indexed_text l.index) (known l.called) (plain.statements (drop l.s-index l.list))
    ≡ pauses.some_certain (indexed_text l.index) (known l.called) (plain.statements l.fn.list)

abbrev pub invariant-branch_certain-loop-branch : goal.invariant-branch_certain-loop-branch
invariant-branch_certain-loop-branch l =
    pauses.branch_certain (indexed_text l.index) (known l.called) (plain.branches (drop l.branch-index l.list))
    ≡ pauses.branch_certain (indexed_text l.index) (known l.called) (plain.branches l.fn.list)
