use Rattle.std.proofs.Common.{◌≡◌, drop, map}
use Rattle.forec_tree.specs.Plain as plain
use Rattle.text_chains.specs.Tallies as of
use Rattle.text_chains.proofs.terms.hides_locals.Given as goal

abbrev pub invariant-loop-l : goal.invariant-loop-l
invariant-loop-l l = of.hides_locals l.w.variable l.now_hidden (map plain.declared (drop l.l-index l.list)) ≡ of.hides_locals l.fn.w.variable l.fn.hidden (map plain.declared l.fn.list)
