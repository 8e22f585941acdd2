use Rattle.std.proofs.Common.{Some, length, ◌-◌}
use Rattle.log_text.specs.Numbers.{DigitsTo}
use Rattle.log_text.proofs.numbers.short_digits.Given as goal

abbrev pub invariant-loop-end : goal.invariant-loop-end
invariant-loop-end l = DigitsTo l.bytes l.at l.end (Some l.number)

abbrev pub decreases-loop-end : goal.decreases-loop-end
decreases-loop-end l = length l.bytes - l.end
