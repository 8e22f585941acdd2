use Rattle.std.proofs.Common.{◌∙◌}
use Rattle.running_texts.proofs.Words.{zeros_more}
use Rattle.running_texts.proofs.functions.words_from.Goals as goal

pub loop-preserved : goal.loop-preserved
loop-preserved c = c.in_ok-push.ensures.items ∙ zeros_more c.args.args.now c.loop.words.items c.loop.counter c.loop.invariant
