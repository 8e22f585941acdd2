use Rattle.std.proofs.Common.{◌≡◌, map, drop}
use Rattle.forec_tree.specs.Plain as plain
use Rattle.forec_tree.specs.Turns as form
use Rattle.loop_check.proofs.touch.declares.Given as goal

abbrev pub invariant-loop-local : goal.invariant-loop-local
invariant-loop-local l = form.declares_name l.id (map plain.declared (drop l.local-index l.list)) ≡ form.declares_name l.id (map plain.declared l.fn.list)
