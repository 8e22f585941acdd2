use Rattle.std.proofs.Common.{◌≡◌}
use Rattle.forec_kernel.specs.Values.{cleared}
use Rattle.running_texts.proofs.functions.clear_words.Given as goal

abbrev pub invariant-loop-i : goal.invariant-loop-i
invariant-loop-i l = l.words.items ≡ cleared l.initial.words.items l.slot l.i
