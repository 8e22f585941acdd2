use Rattle.std.proofs.Common.{◌≡◌, ◌++◌, drop}
use Rattle.forec_tree.specs.Plain as plain
use Rattle.forec_tree.specs.Pauses as pauses
use Rattle.loop_check.proofs.starts.+start.Given as goal

abbrev pub invariant-all_started-loop-s : goal.invariant-all_started-loop-s
invariant-all_started-loop-s l =
    l.list.items ++ pauses.all_started (plain.statements (drop l.s-index l.body)) ≡ l.fn.list.items ++ pauses.all_started (plain.statements l.fn.body)

abbrev pub invariant-branches_started-loop-branch : goal.invariant-branches_started-loop-branch
invariant-branches_started-loop-branch l =
    l.list.items ++ pauses.branches_started (plain.branches (drop l.branch-index l.branches))
    ≡ l.fn.list.items ++ pauses.branches_started (plain.branches l.fn.branches)
