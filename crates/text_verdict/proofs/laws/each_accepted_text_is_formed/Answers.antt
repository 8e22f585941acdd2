use Rattle.text_verdict.proofs.PacedVerdicts.{accepted_texts_are_formed}
use Rattle.text_verdict.proofs.laws.each_accepted_text_is_formed.Goals as goal

pub returns : goal.returns
returns c = accepted_texts_are_formed
