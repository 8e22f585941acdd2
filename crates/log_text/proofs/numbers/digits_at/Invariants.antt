use Rattle.std.proofs.Common.{length, ◌-◌}
use Rattle.log_text.specs.Numbers.{DigitsTo}
use Rattle.log_text.proofs.numbers.digits_at.Given as goal

abbrev pub invariant-loop-end : goal.invariant-loop-end
invariant-loop-end l = DigitsTo l.bytes l.at l.end l.value

abbrev pub decreases-loop-end : goal.decreases-loop-end
decreases-loop-end l = length l.bytes - l.end
