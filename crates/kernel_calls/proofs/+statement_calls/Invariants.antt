use Rattle.std.proofs.Common.{◌≡◌, ◌++◌, drop}
use Rattle.forec_kernel.specs.Plain as kernel
use Rattle.forec_kernel.specs.WellFormed as of
use Rattle.kernel_calls.proofs.+statement_calls.Given as goal

abbrev pub invariant-list_calls-loop-s : goal.invariant-list_calls-loop-s
invariant-list_calls-loop-s l = l.calls.items ++ of.stmts_calls (kernel.stmts (drop l.s-index l.list)) ≡ l.fn.calls.items ++ of.stmts_calls (kernel.stmts l.fn.list)
