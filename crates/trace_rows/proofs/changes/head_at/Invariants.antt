use Rattle.trace_rows.specs.Changes.{is_equals}
use Rattle.trace_rows.specs.Words.{is_blank}
use Rattle.trace_rows.proofs.ChangeWords.{NoneOf}
use Rattle.trace_rows.proofs.changes.head_at.Given as goal

abbrev pub invariant-loop-i : goal.invariant-loop-i
invariant-loop-i l = record { solid : NoneOf is_blank l.text l.i; other : NoneOf is_equals l.text l.i }
