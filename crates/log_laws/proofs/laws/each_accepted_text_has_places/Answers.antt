use Rattle.log_laws.proofs.Whole.{accepted_texts_have_places}
use Rattle.log_laws.proofs.laws.each_accepted_text_has_places.Goals as goal

pub returns : goal.returns
returns c = accepted_texts_have_places
