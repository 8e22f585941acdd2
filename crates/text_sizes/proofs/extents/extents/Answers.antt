use Rattle.std.proofs.Common.{sym, subst}
use Rattle.loop_check.specs.Views.{indexed_text}
use Rattle.loop_check.proofs.Ordered.{order_lent}
use Rattle.forec_check.specs.Table.{Settles}
use Rattle.text_sizes.specs.Extents.{no_extent, extent_step, capped_size, extent_value}
use Rattle.text_sizes.proofs.Extending.{extents_settle}
use Rattle.text_sizes.proofs.extents.extents.Goals as goal

pub table_of-requires : goal.table_of-requires
table_of-requires c =
    let text = indexed_text c.args.index.now in
    subst (λ o. Settles no_extent (extent_step capped_size text) (extent_value text) o) (sym c.deref-3.ensures.value)
    (extents_settle text _ _ _ c.in_ok-calls.ensures (order_lent c.deref.ensures.value c.deref-2.ensures.value c.in_ok-order.ensures) c.requires)
