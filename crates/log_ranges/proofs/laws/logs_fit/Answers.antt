use Rattle.log_ranges.proofs.Whole.{logs_fit}
use Rattle.log_ranges.proofs.laws.logs_fit.Goals as goal

pub returns : goal.returns
returns c = logs_fit
