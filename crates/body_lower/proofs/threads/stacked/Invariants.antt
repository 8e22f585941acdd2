use Rattle.std.proofs.Common.{◌≡◌, ◌++◌, vec_len}
use Rattle.forec_tree.specs.Terms.{Text}
use Rattle.lower_names.specs.Views.{pending_threads, threads_on}
use Rattle.body_lower.proofs.threads.stacked.Given as goal

abbrev pub invariant-loop-one : goal.invariant-loop-one
invariant-loop-one l = (text : Text) → pending_threads text l.pending.items ++ threads_on text l.stack.items ≡ pending_threads text l.fn.pending.items ++ threads_on text l.fn.stack.items

abbrev pub decreases-loop-one : goal.decreases-loop-one
decreases-loop-one l = vec_len l.pending
