use Rattle.std.proofs.Common.{◌<◌, ℕ, length}
use Rattle.thread_code.specs.Plain.{plain_code}
use Rattle.exchange_meaning.specs.Logged.{ExchangeLog}
use Rattle.exchange_replay.specs.Replaying.{ReplaysSame}
use Rattle.log_text.specs.ReadLogs.{HasPairs}
use Rattle.log_runs.proofs.replaying.first_difference.Given as goal

abbrev pub invariant-loop-thread : goal.invariant-loop-thread
invariant-loop-thread l = record {
  within : l.thread < length (plain_code l.code).threads;
  same : (pairs : ExchangeLog) → HasPairs (plain_code l.code).shape l.log pairs → (u : ℕ) → l.thread < u → u < length (plain_code l.code).shape.threads → ReplaysSame (plain_code l.code) pairs u;
}

abbrev pub decreases-loop-thread : goal.decreases-loop-thread
decreases-loop-thread l = l.thread
