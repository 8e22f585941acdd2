use Rattle.std.proofs.Common.{◌≡◌, ◌≤◌, ◌-◌, List, length}
use Rattle.forec_kernel.specs.Engine.{Answered}
use Rattle.thread_code.specs.Plain.{plain_code}
use Rattle.exchange_meaning.specs.Logged.{ExchangeLog}
use Rattle.exchange_replay.specs.Tracks.{HavePassed}
use Rattle.exchange_replay.proofs.ForkLemmas.{PassedFirst}
use Rattle.exchange_replay.proofs.walk.Walk.passes_fork.Given as goal

abbrev pub invariant-loop-branch : goal.invariant-loop-branch
invariant-loop-branch l = record {
  thread : l.self.thread ≡ l.fn.self.thread;
  within : l.k ≤ length l.fn.self.thread.branches.numbers;
  first : (pairs : ExchangeLog) (told : List Answered) → HavePassed (plain_code l.fn.code).shape l.fn.log pairs l.fn.self.thread.number l.fn.self.branches.items told
      → PassedFirst (plain_code l.fn.code) l.fn.log pairs l.fn.self.thread l.self l.k told;
}

abbrev pub decreases-loop-branch : goal.decreases-loop-branch
decreases-loop-branch l = length l.fn.self.thread.branches.numbers - l.k
