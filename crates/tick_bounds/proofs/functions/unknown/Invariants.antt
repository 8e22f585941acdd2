use Rattle.std.proofs.Common.{◌≡◌, ℕ, false, length}
use Rattle.tick_bounds.specs.Known.{has_bound}
use Rattle.tick_bounds.proofs.functions.unknown.Given as goal

abbrev pub invariant-loop : goal.invariant-loop
invariant-loop l =
    record {
      long : length l.table.items ≡ l.counter;
      empty : (g : ℕ) → has_bound l.table.items g ≡ false;
    }
