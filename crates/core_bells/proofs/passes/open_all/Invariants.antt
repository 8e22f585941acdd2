use Rattle.std.proofs.Common.{◌≡◌, length, map}
use Rattle.crossbeam_queue.specs.Passes.{ruled_capacity}
use Rattle.core_bells.specs.Rooms.{rooms_of_first}
use Rattle.core_bells.specs.Ropes.{AreFirsts}
use Rattle.core_bells.proofs.passes.open_all.Given as goal

abbrev pub invariant-loop-core : goal.invariant-loop-core
invariant-loop-core l = record {
  count : length l.queues.items ≡ l.core;
  rooms : map ruled_capacity l.queues.items ≡ rooms_of_first l.fn.ends l.core;
  firsts : AreFirsts 0 l.queues.items l.firsts.items;
}
