use Rattle.fold_laws.proofs.Ticks.{each_list, each_run}
use Rattle.fold_laws.proofs.laws.folding_keeps_runs.Goals as goal

pub returns : goal.returns
returns c = record { runs = each_list; units = each_run }
