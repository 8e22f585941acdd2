use Rattle.text_verdict.proofs.Verdicts.{one_verdict}
use Rattle.text_verdict.proofs.laws.one_verdict.Goals as goal

pub returns : goal.returns
returns c = one_verdict c.one_program.ensures
