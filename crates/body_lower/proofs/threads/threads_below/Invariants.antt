use Rattle.std.proofs.Common.{◌≡◌, ◌++◌, [], map, length}
use Rattle.loop_check.specs.Views.{indexed_text}
use Rattle.lower_names.specs.Views.{of_thread, threads_of, threads_on}
use Rattle.body_lower.proofs.threads.threads_below.Given as goal

abbrev pub invariant-loop-one : goal.invariant-loop-one
invariant-loop-one l =
    record {
      threads : map of_thread l.threads.items ++ threads_on (indexed_text l.source.globals.index) l.stack.items ≡ threads_of (indexed_text l.source.globals.index) l.fn.state;
      none : l.state.pending.items ≡ [];
    }

abbrev pub decreases-loop-one : goal.decreases-loop-one
decreases-loop-one l = length (threads_on (indexed_text l.source.globals.index) l.stack.items)
