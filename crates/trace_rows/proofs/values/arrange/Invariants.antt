use Rattle.std.proofs.Common.{◌≡◌, take}
use Rattle.trace_rows.specs.Trace.{arranged}
use Rattle.trace_rows.proofs.values.arrange.Given as goal

abbrev pub invariant-loop-i : goal.invariant-loop-i
invariant-loop-i l = take l.i l.row ≡ arranged (take l.i l.places) l.values
