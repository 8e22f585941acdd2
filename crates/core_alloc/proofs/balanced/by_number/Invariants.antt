use Rattle.std.proofs.Common.{◌≡◌, ◌++◌, drop}
use Rattle.core_alloc.specs.Balance.{ranked_from}
use Rattle.core_alloc.proofs.balanced.by_number.Given as goal

abbrev pub invariant-loop-weight : goal.invariant-loop-weight
invariant-loop-weight l =
    record {
      list : l.list.items ++ ranked_from l.thread (drop l.weight-index l.weights) ≡ ranked_from 0 l.weights;
      thread : l.thread ≡ l.weight-index;
    }
