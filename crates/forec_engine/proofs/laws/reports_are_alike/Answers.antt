use Rattle.forec_engine.proofs.Reports.{alike_reports}
use Rattle.forec_engine.proofs.laws.reports_are_alike.Goals as goal

pub returns : goal.returns
returns c = alike_reports c.one_verdict.ensures c.each_accepted_text_is_formed.ensures c.a_run_has_one_log.ensures c.a_run_has_one_replay.ensures c.one_placement.ensures
