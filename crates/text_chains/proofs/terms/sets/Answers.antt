use Rattle.std.proofs.Common.{◌∙◌, ap}
use Rattle.text_sizes.proofs.Tallied.{terms_length}
use Rattle.text_chains.specs.Tallies.{taking}
use Rattle.text_chains.proofs.Sums.{both}
use Rattle.text_chains.proofs.terms.sets.Goals as goal

pub returns : goal.returns
returns c = c.joined.ensures ∙ both _ _ _ _ (c.taking.ensures ∙ ap taking (terms_length c.args.args.now)) c.terms.ensures
