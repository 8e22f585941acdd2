use Rattle.kernel_drafts.proofs.measure.words_along.Goals as goal

pub returns : goal.returns
returns c = c.in_ok-chains.ensures.words
