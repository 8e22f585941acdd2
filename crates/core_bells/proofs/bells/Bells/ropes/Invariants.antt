use Rattle.std.proofs.Common.{◌≡◌, ◌+◌, ◌≤◌, ◌++◌, deque_len}
use Rattle.std.specs.Prelude.{vec_len, vec_capacity}
use Rattle.core_bells.specs.Ropes.{RopesFit, placed_on, states_of}
use Rattle.core_bells.proofs.bells.Bells.ropes.Given as goal

abbrev pub invariant-cores : goal.invariant-cores
invariant-cores l = record {
  fit : RopesFit (placed_on l.belfry.cores l.belfry.places.items) l.belfry.queues.items l.loose.items;
  room : vec_len l.ropes + deque_len l.loose ≤ vec_capacity l.ropes;
  all : l.ropes.items ++ states_of (placed_on l.belfry.cores l.belfry.places.items) l.belfry.queues.items l.loose.items
      ≡ states_of (placed_on l.fn.self.belfry.cores l.fn.self.belfry.places.items) l.fn.self.belfry.queues.items l.fn.self.loose.items;
}

abbrev pub decreases-cores : goal.decreases-cores
decreases-cores l = deque_len l.loose
