use Rattle.forec_engine.proofs.ReplayLaw.{ok_exactly}
use Rattle.forec_engine.proofs.laws.replay_ok_is_the_log.Goals as goal

pub returns : goal.returns
returns c = ok_exactly c.one_verdict.ensures c.each_accepted_text_is_formed.ensures c.a_run_has_one_replay.ensures c.each_accepted_text_has_fitting_logs.ensures
