use Rattle.std.proofs.Common.{◌∙◌, sym, add-one}
use Rattle.running_texts.proofs.Copies.{contains_next, contains_here, contains_past}
use Rattle.running_texts.proofs.folds.has.Goals as goal

pub loop-other-preserved : goal.loop-other-preserved
loop-other-preserved c =
    rw add-one (contains_next c.args.variable c.args.uses.now c.loop-other.other-index 0 c.loop-other-test.true c.if-other-variable.false ∙ c.loop-other.invariant)

pub returns-then-other-variable : goal.returns-then-other-variable
returns-then-other-variable c =
    sym (contains_here c.args.variable c.args.uses.now c.loop-other.other-index 0 c.loop-other-test.true c.if-other-variable.true) ∙ c.loop-other.invariant

pub returns : goal.returns
returns c = sym (contains_past c.args.variable c.args.uses.now c.loop-other.other-index c.loop-other-test.false) ∙ c.loop-other.invariant
