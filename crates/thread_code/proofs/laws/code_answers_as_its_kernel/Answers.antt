use Rattle.thread_code.proofs.Answers.{answers_alike}
use Rattle.thread_code.proofs.laws.code_answers_as_its_kernel.Goals as goal

pub returns : goal.returns
returns c = answers_alike
