use Rattle.std.proofs.Common.{◌≡◌, ◌+◌, ◌-◌, ◌*◌, List, length}
use Rattle.forec_kernel.specs.Engine.{Job}
use Rattle.thread_code.specs.Plain.{plain_code}
use Rattle.thread_code.specs.Alone.{block_of}
use Rattle.core_machine.specs.Threads.{Loaded, CanRun}
use Rattle.exchange_meaning.specs.Logged.{ExchangeLog}
use Rattle.exchange_replay.specs.Walks.{WalksJob}
use Rattle.exchange_replay.proofs.FinishLemmas.{Counted}
use Rattle.exchange_replay.proofs.walk.Walk.finish.Given as goal

abbrev pub invariant-loop-self : goal.invariant-loop-self
invariant-loop-self l = record {
  loaded : Loaded (plain_code l.fn.code) l.self.thread;
  running : CanRun l.self.thread;
  number : l.self.thread.number ≡ l.fn.self.thread.number;
  at : (pairs : ExchangeLog) (jobs : List Job) (job : Job) (w : WalksJob (plain_code l.fn.code) l.fn.log pairs l.fn.self jobs job) →
      Counted (plain_code l.fn.code) l.fn.log pairs l.self jobs job (length w.log.before + l.forks);
}

abbrev pub decreases-loop-self : goal.decreases-loop-self
decreases-loop-self l =
    (length (block_of (plain_code l.fn.code) l.fn.self.thread.number).steps + 2) * l.fn.self.thread.allowance + (length (block_of (plain_code l.fn.code) l.fn.self.thread.number).steps + 2) - l.forks
