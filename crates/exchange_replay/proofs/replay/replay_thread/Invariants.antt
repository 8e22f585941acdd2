use Rattle.thread_code.specs.Plain.{plain_code}
use Rattle.exchange_meaning.specs.Logged.{ExchangeLog}
use Rattle.log_text.specs.ReadLogs.{HasPairs}
use Rattle.exchange_replay.proofs.ReplayLemmas.{Stage}
use Rattle.exchange_replay.proofs.replay.replay_thread.Given as goal

abbrev pub invariant-loop-walk : goal.invariant-loop-walk
invariant-loop-walk l =
    (pairs : ExchangeLog) → HasPairs (plain_code l.fn.code).shape l.fn.log pairs → Stage (plain_code l.fn.code) pairs l.fn.log l.fn.t l.walk l.own l.job

abbrev pub decreases-loop-walk : goal.decreases-loop-walk
decreases-loop-walk l = l.own.cursor.left
