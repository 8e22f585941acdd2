use Rattle.loop_check.specs.Views.{indexed_text}
use Rattle.std.proofs.Common.{get_or}
use Rattle.lower_names.proofs.AdditionLemmas.{all_put}
use Rattle.lower_names.proofs.added.additions.Goals as goal

pub loop-f-preserved : goal.loop-f-preserved
loop-f-preserved c =
    all_put (indexed_text c.args.index.now) (get_or c.args.order.now c.loop-f.f-index 0) c.of_name-added.result c.loop-f.table.items c.put.new.table.items c.loop-f.invariant c.in_ok-put.ensures.ok c.of_name-added.ensures
