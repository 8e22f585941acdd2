use Rattle.std.proofs.Common.{◌≡◌, ◌≤◌, ◌<◌, ◌+◌, ◌^◌, All, drop, length, sum}
use Rattle.core_alloc.specs.Balance.{total_weight, placed_all, balance_of}
use Rattle.core_alloc.proofs.balanced.places_of.Given as goal

abbrev pub invariant-loop-thread : goal.invariant-loop-thread
invariant-loop-thread l =
    record {
      rest : placed_all (drop l.thread-index l.order) (record { loads = l.loads.items; places = l.places.items }) ≡ balance_of l.order l.fn.cores;
      cores : length l.loads.items ≡ l.fn.cores;
      threads : length l.places.items ≡ length l.order;
      room : sum l.loads.items + total_weight (drop l.thread-index l.order) ≤ 2 ^ 62;
      below : All (λ core. core < l.fn.cores) l.places.items;
    }
