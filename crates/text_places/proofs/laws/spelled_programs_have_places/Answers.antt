use Rattle.text_places.proofs.Whole.{spelled_programs_have_places}
use Rattle.text_places.proofs.laws.spelled_programs_have_places.Goals as goal

pub returns : goal.returns
returns c = spelled_programs_have_places
