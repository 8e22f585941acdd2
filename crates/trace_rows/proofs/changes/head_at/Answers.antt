use Rattle.std.proofs.Common.{sym, ◌∙◌, arith}
use Rattle.trace_rows.proofs.ChangeWords.{equals_there, blank_there, nothing_there}
use Rattle.trace_rows.proofs.changes.head_at.Goals as goal

pub returns-then-b-eq61-clause-some : goal.returns-then-b-eq61-clause-some
returns-then-b-eq61-clause-some c =
    equals_there c.args.text.now c.loop-i.i (omega arith) c.if-b-eq61.true c.loop-i.invariant.solid c.loop-i.invariant.other

pub returns-then-blank-clause-none : goal.returns-then-blank-clause-none
returns-then-blank-clause-none c =
    blank_there c.args.text.now c.loop-i.i (omega arith) (sym c.blank.ensures ∙ c.if-blank.true) c.loop-i.invariant.solid c.loop-i.invariant.other

pub returns-clause-none : goal.returns-clause-none
returns-clause-none c =
    nothing_there c.args.text.now c.loop-i.i (omega arith) c.loop-i.invariant.other
