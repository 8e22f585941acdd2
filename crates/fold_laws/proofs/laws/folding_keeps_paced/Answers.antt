use Rattle.fold_laws.proofs.Paces.{folded_paced}
use Rattle.fold_laws.proofs.laws.folding_keeps_paced.Goals as goal

pub returns : goal.returns
returns c = folded_paced
