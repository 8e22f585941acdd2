use Rattle.std.proofs.Common.{◌≡◌, ◌<◌, take}
use Rattle.std.specs.Prelude.{All}
use Rattle.core_seats.proofs.load.places_of.Given as goal

abbrev pub invariant-loop-thread : goal.invariant-loop-thread
invariant-loop-thread l = record {
  same : l.places.items ≡ take l.thread l.placement.places;
  below : All (λ core. core < l.placement.cores) l.places.items;
}
