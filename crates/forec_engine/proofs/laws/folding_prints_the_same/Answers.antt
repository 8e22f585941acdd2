use Rattle.forec_engine.proofs.FoldedReports.{prints_the_same}
use Rattle.forec_engine.proofs.laws.folding_prints_the_same.Goals as goal

pub returns : goal.returns
returns c = prints_the_same c.folding_keeps_runs.ensures.runs
