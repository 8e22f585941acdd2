use Rattle.std.proofs.Common.{◌≡◌, ◌++◌, map, drop}
use Rattle.forec_kernel.specs.Plain as kernel
use Rattle.forec_kernel.specs.WellFormed as of
use Rattle.kernel_drafts.specs.Reach.{has, combine_at, pars_by, list_items}
use Rattle.kernel_drafts.proofs.reach.thread_calls.Given as goal

abbrev pub invariant-loop-threads : goal.invariant-loop-threads
invariant-loop-threads l =
    l.calls.items ++ pars_by (has l.rows) (combine_at l.variables) l.uses (map list_items (drop l.threads-index l.threads-items))
    ≡ of.stmt_calls (kernel.stmt l.body) ++ pars_by (has l.rows) (combine_at l.variables) l.uses (map list_items l.threads-items)
