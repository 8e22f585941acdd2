use Rattle.forec_engine.proofs.Reports.{some_report}
use Rattle.forec_engine.proofs.laws.each_command_has_a_report.Goals as goal

pub returns : goal.returns
returns c = some_report c.each_text_has_a_verdict.ensures c.each_accepted_text_is_formed.ensures c.folding_keeps_form.ensures c.each_run_has_a_log.ensures c.some_placement.ensures
