use Rattle.std.proofs.Common.{◌≡◌, drop}
use Rattle.forec_tree.specs.Plain as plain
use Rattle.forec_tree.specs.Turns as form
use Rattle.loop_check.proofs.touch.+touch.Given as goal

abbrev pub invariant-any_touches-loop-s : goal.invariant-any_touches-loop-s
invariant-any_touches-loop-s l = form.some_touches l.id (plain.statements (drop l.s-index l.list)) ≡ form.some_touches l.id (plain.statements l.fn.list)

abbrev pub invariant-branches_touch-loop-branch : goal.invariant-branches_touch-loop-branch
invariant-branches_touch-loop-branch l = form.branches_touch l.id (plain.branches (drop l.branch-index l.list)) ≡ form.branches_touch l.id (plain.branches l.fn.list)
