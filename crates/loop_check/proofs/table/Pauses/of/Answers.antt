use Rattle.std.proofs.Common.{subst, length}
use Rattle.forec_tree.specs.Faults.{Leads}
use Rattle.forec_tree.specs.Pauses.{callees_of, certain_step}
use Rattle.loop_check.specs.Known.{known, IsRightTable}
use Rattle.loop_check.specs.Views.{indexed_text}
use Rattle.loop_check.proofs.Reading.{all_judged}
use Rattle.loop_check.proofs.Ordered.{order_lent}
use Rattle.loop_check.proofs.table.Pauses.of.Goals as goal

pub invariant_of-result : goal.invariant_of-result
invariant_of-result c =
    let text = indexed_text c.in_ok-index.index in
    let order = c.in_ok-order.order.items in
    let judged : IsRightTable (certain_step text) order (length order) (known c.in_ok-called.called.items) =
    subst (λ o. IsRightTable (certain_step text) o (length o) (known c.in_ok-called.called.items)) c.deref-3.ensures.value c.in_ok-called.ensures in
    record {
      right = all_judged text _ order _ (known c.in_ok-called.called.items) c.in_ok-calls.ensures (order_lent c.deref.ensures.value c.deref-2.ensures.value c.in_ok-order.ensures)
          (λ f l. c.requires f (subst (λ t. Leads (callees_of t) f f) c.in_ok-index.ensures l)) judged;
    }
