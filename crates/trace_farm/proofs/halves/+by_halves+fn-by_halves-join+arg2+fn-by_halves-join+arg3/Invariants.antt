use Rattle.std.proofs.Common.{length}
use Rattle.trace_farm.proofs.halves.+by_halves+fn-by_halves-join+arg2+fn-by_halves-join+arg3.Given as goal

abbrev pub decreases-join+arg2 : goal.decreases-join+arg2
decreases-join+arg2 g l = length l.front.now

abbrev pub decreases-join+arg3 : goal.decreases-join+arg3
decreases-join+arg3 g l = length l.back.now

abbrev pub decreases-by_halves : goal.decreases-by_halves
decreases-by_halves g l = length l.traces.now
