use Rattle.std.proofs.Common.{◌∙◌, ◌-◌, ◌^◌, sym, ap, subst, min}
use Rattle.forec_tree.specs.Pauses.{callees_of}
use Rattle.forec_tree.specs.Faults.{Leads}
use Rattle.forec_tree.specs.Threads as threads
use Rattle.loop_check.specs.Views.{indexed_text}
use Rattle.loop_check.proofs.Ordered.{order_lent}
use Rattle.forec_check.specs.Table.{Settles}
use Rattle.forec_check.specs.Instances.{count_at, capped_below, count_of}
use Rattle.forec_check.proofs.InstanceCounts.{counts_settle, counted_all}
use Rattle.forec_check.proofs.instances.instances.Goals as goal

pub counts-requires : goal.counts-requires
counts-requires c =
    let text = indexed_text c.in_ok-index.index in
    subst (λ o. Settles 0 (capped_below text) (count_of text) o) (sym c.deref-3.ensures.value)
    (counts_settle text _ _ _ c.in_ok-calls.ensures (order_lent c.deref.ensures.value c.deref-2.ensures.value c.in_ok-order.ensures) (λ f l. c.requires f (subst (λ t. Leads (callees_of t) f f) c.in_ok-index.ensures l)))

pub returns : goal.returns
returns c =
    let text = indexed_text c.in_ok-index.index in
    counted_all text c.args.first c.known_count.result c.sum.result (c.known_count.ensures ∙ ap (λ t. count_at t c.args.first) c.deref-4.ensures.value ∙ c.in_ok-table.ensures c.args.first) c.sum.ensures
    ∙ ap (λ t. min (threads.instances t c.args.first) (2 ^ 64 - 1)) c.in_ok-index.ensures
