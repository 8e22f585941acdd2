use Rattle.std.proofs.Common.{◌≡◌, length}
use Rattle.thread_code.specs.Plain.{plain_code}
use Rattle.exchange_replay.proofs.NewLemmas.{AreMade}
use Rattle.exchange_replay.proofs.walk.Walk.new.Given as goal

abbrev pub invariant-loop-thread : goal.invariant-loop-thread
invariant-loop-thread l = record {
  count : length l.branches.items ≡ l.thread;
  made : AreMade (plain_code l.fn.code).shape l.fn.log l.fn.t l.branches.items;
}
