use Rattle.log_runs.proofs.KernelLogs.{one_run_log}
use Rattle.log_runs.proofs.laws.a_run_has_one_log.Goals as goal

pub returns : goal.returns
returns c = one_run_log
