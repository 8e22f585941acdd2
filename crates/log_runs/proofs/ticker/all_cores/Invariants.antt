use Rattle.std.proofs.Common.{◌-◌, ◌≡◌, ◌≤◌}
use Rattle.log_writing.specs.Logging.{numbers_below}
use Rattle.log_runs.proofs.ticker.all_cores.Given as goal

abbrev pub invariant-loop-core : goal.invariant-loop-core
invariant-loop-core l = record {
  within : l.core ≤ l.count;
  items : l.cores.items ≡ numbers_below l.core;
}

abbrev pub decreases-loop-core : goal.decreases-loop-core
decreases-loop-core l = l.count - l.core
