use Rattle.exchange_meaning.proofs.Replayed.{one_answer}
use Rattle.exchange_meaning.proofs.laws.answer_is_one.Goals as goal

pub returns : goal.returns
returns c = one_answer
