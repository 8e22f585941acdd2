use Rattle.std.proofs.Common.{◌≡◌, drop}
use Rattle.forec_tree.specs.Faults.{is_in}
use Rattle.loop_check.proofs.search.is_among.Given as goal

abbrev pub invariant-loop-g : goal.invariant-loop-g
invariant-loop-g l = is_in l.f (drop l.g-index l.list) ≡ is_in l.f l.fn.list
