use Rattle.core_machine.proofs.Told.{replies_answer}
use Rattle.core_machine.proofs.laws.replies_answer_jobs.Goals as goal

pub returns : goal.returns
returns c = replies_answer
