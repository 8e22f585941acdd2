use Rattle.std.proofs.Common.{◌≡◌, ◌<◌, length}
use Rattle.core_alloc.specs.Balance.{lightest_in}
use Rattle.core_alloc.proofs.balanced.lightest_core.Given as goal

abbrev pub invariant-loop-core : goal.invariant-loop-core
invariant-loop-core l =
    record {
      best : l.best ≡ lightest_in l.loads l.core;
      below : l.best < length l.loads;
    }
