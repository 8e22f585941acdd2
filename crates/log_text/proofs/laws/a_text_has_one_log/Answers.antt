use Rattle.log_text.proofs.OnceLemmas.{one_log}
use Rattle.log_text.proofs.laws.a_text_has_one_log.Goals as goal

pub returns : goal.returns
returns c = one_log
