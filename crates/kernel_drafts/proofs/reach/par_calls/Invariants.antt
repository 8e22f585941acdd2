use Rattle.std.proofs.Common.{◌≡◌, ◌++◌, drop}
use Rattle.kernel_drafts.specs.Reach.{has, combine_at, combine_by}
use Rattle.kernel_drafts.proofs.reach.par_calls.Given as goal

abbrev pub invariant-loop-variable : goal.invariant-loop-variable
invariant-loop-variable l =
    l.calls.items ++ combine_by (has l.rows) (combine_at l.variables) l.threads (drop l.variable-index l.uses) ≡ l.fn.calls.items ++ combine_by (has l.rows) (combine_at l.variables) l.threads l.fn.uses
