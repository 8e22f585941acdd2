use Rattle.std.proofs.Common.{◌∙◌}
use Rattle.trace_rows.proofs.NamePlaces.{copy_more}
use Rattle.trace_rows.proofs.names.copied.Goals as goal

pub loop-i-preserved : goal.loop-i-preserved
loop-i-preserved c =
    c.in_ok-push.ensures.ok ∙ copy_more c.args.texts.now c.loop-i.copy c.loop-i.i c.get.result.now c.get.ensures c.loop-i.invariant
