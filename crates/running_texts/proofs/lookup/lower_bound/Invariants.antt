use Rattle.std.proofs.Common.{◌-◌}
use Rattle.running_texts.proofs.Lookups.{Between}
use Rattle.running_texts.proofs.lookup.lower_bound.Given as goal

abbrev pub invariant-loop-low : goal.invariant-loop-low
invariant-loop-low l = Between l.variable l.uses l.low l.high

abbrev pub decreases-loop-low : goal.decreases-loop-low
decreases-loop-low l = l.high - l.low
