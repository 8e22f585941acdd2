use Rattle.std.proofs.Common.{◌≡◌, ◌+◌, ◌%◌, ◌^◌, drop}
use Rattle.trace_ticks.specs.Workload.{values_sum}
use Rattle.trace_ticks.proofs.generated.with_values.Given as goal

abbrev pub invariant-loop-value : goal.invariant-loop-value
invariant-loop-value l = (l.sum + values_sum (drop l.value-index l.values)) % 2 ^ 32 ≡ (l.fn.sum + values_sum l.fn.values) % 2 ^ 32
