use Rattle.running_texts.proofs.Rows.{start_more}
use Rattle.kernel_meaning.proofs.ticks.first_copies.Goals as goal

pub loop-variable-preserved : goal.loop-variable-preserved
loop-variable-preserved c =
    rw (c.in_ok-push.ensures.items, c.start_copy.ensures)
    (start_more c.args.variables.now c.loop-variable.variable-index _ c.loop-variable.list.items c.loop-variable-test.true c.loop-variable.invariant)
