use Rattle.std.proofs.Common.{refl, not}
use Rattle.loop_check.specs.Views.{indexed_text}
use Rattle.forec_check.proofs.Propagation.{told}
use Rattle.forec_check.proofs.instances.single.single_access.Goals as goal

pub returns : goal.returns
returns c =
    told (indexed_text c.args.index.now) c.args.first c.args.order.now c.propagate-2.new.tables (record { globals = c.propagate-2.new.tables.globals; certain = not c.in_ok-moved.moved }) c.in_ok-moved.moved
    c.requires.order c.in_ok-moved.ensures refl refl
