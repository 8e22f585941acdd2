use Rattle.text_verdict.proofs.PacedVerdicts.{accepted_texts_are_paced, accepted_texts_are_never_over}
use Rattle.text_verdict.proofs.laws.each_accepted_text_is_paced.Goals as goal

pub returns : goal.returns
returns c = record { paced = accepted_texts_are_paced; never_over = accepted_texts_are_never_over }
