use Rattle.trace_rows.proofs.NamePlaces.{NoneBefore}
use Rattle.trace_rows.proofs.names.place_of.Given as goal

abbrev pub invariant-loop-i : goal.invariant-loop-i
invariant-loop-i l = NoneBefore l.texts l.name l.i
