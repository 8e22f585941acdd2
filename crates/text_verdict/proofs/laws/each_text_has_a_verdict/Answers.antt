use Rattle.text_verdict.proofs.Verdicts.{some_verdict}
use Rattle.text_verdict.proofs.laws.each_text_has_a_verdict.Goals as goal

pub returns : goal.returns
returns c = some_verdict
