use Rattle.std.proofs.Common.{◌≡◌, ◌++◌, drop, map}
use Rattle.forec_kernel.specs.Plain as kernel
use Rattle.forec_kernel.specs.WellFormed as of
use Rattle.kernel_drafts.specs.Reach.{list_items}
use Rattle.kernel_drafts.proofs.pars.+pars.Given as goal

abbrev pub invariant-list_pars-loop-s : goal.invariant-list_pars-loop-s
invariant-list_pars-loop-s l = map list_items l.found.items ++ of.pars_in (kernel.stmts (drop l.s-index l.list)) ≡ map list_items l.fn.found.items ++ of.pars_in (kernel.stmts l.fn.list)
