use Rattle.std.proofs.Common.{◌≡◌, length}
use Rattle.thread_code.specs.Plain.{plain_code}
use Rattle.one_core.specs.Loads.{AreNew}
use Rattle.one_core.proofs.load.seats_of.Given as goal

abbrev pub invariant-loop-thread : goal.invariant-loop-thread
invariant-loop-thread l = record {
  count : length l.seats.items ≡ l.thread;
  each : AreNew (plain_code l.code) l.seats.items;
}
