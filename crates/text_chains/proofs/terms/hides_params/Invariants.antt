use Rattle.std.proofs.Common.{◌≡◌, drop, false}
use Rattle.text_chains.specs.Tallies as of
use Rattle.text_chains.proofs.terms.hides_params.Given as goal

abbrev pub invariant-loop-p : goal.invariant-loop-p
invariant-loop-p l = of.hides_params l.w.variable l.hidden (drop l.p-index l.params) ≡ of.hides_params l.fn.w.variable false l.fn.params
