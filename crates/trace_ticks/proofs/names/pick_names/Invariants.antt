use Rattle.std.proofs.Common.{◌≡◌, ◌≤◌, ◌++◌, length, drop, IsTrue}
use Rattle.forec_kernel.specs.WellFormed.{all_below}
use Rattle.trace_ticks.specs.KernelNames.{names_at}
use Rattle.trace_ticks.proofs.names.pick_names.Given as goal

abbrev pub invariant-loop-variable : goal.invariant-loop-variable
invariant-loop-variable l =
    record {
      told : l.picked ++ names_at l.names (drop l.variable-index l.variables) ≡ names_at l.names l.fn.variables;
      below : IsTrue (all_below (length l.names) (drop l.variable-index l.variables));
      few : length l.picked ≤ l.variable-index;
    }
