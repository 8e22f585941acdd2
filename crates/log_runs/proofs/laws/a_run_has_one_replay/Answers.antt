use Rattle.log_runs.proofs.OneReplay.{one_replay}
use Rattle.log_runs.proofs.laws.a_run_has_one_replay.Goals as goal

pub returns : goal.returns
returns c = one_replay c.a_text_has_one_log.ensures
