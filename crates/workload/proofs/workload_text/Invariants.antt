use Rattle.std.proofs.Common.{◌≡◌, ◌+◌, ◌-◌, ◌≤◌, ◌++◌}
use Rattle.workload.specs.Text.{head_lines, workload_lines_to}
use Rattle.workload.proofs.workload_text.Given as goal

abbrev pub invariant-loop-thread : goal.invariant-loop-thread
invariant-loop-thread l =
    record {
      text : l.text.items ≡ head_lines ++ workload_lines_to l.fn.threads (l.thread - 1);
      some : 1 ≤ l.thread;
    }
