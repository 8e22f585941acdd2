use Rattle.log_laws.proofs.EachRun.{each_run_logged}
use Rattle.log_laws.proofs.laws.each_run_has_a_log.Goals as goal

pub returns : goal.returns
returns c = each_run_logged
