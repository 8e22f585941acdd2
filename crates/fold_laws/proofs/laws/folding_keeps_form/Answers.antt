use Rattle.fold_laws.proofs.Formed.{folded_formed}
use Rattle.fold_laws.proofs.laws.folding_keeps_form.Goals as goal

pub returns : goal.returns
returns c = folded_formed
