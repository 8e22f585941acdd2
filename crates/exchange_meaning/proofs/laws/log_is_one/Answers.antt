use Rattle.exchange_meaning.proofs.Replayed.{one_log, logs_agree, one_text}
use Rattle.exchange_meaning.proofs.laws.log_is_one.Goals as goal

pub returns : goal.returns
returns c = record { one = one_log; same = logs_agree; text = one_text }
