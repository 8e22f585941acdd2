use Rattle.text_verdict.proofs.Verdicts.{told_by_parser}
use Rattle.text_verdict.proofs.judging.read.Goals as goal

pub returns-in-Err-clause-refused : goal.returns-in-Err-clause-refused
returns-in-Err-clause-refused c = told_by_parser c.args.text.now c.args.tokens.now c.in-Err.fault c.refused.result c.in-Err.ensures.refused c.refused.ensures
