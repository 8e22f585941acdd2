use Rattle.std.proofs.Common.{◌∙◌, ap, get_or}
use Rattle.loop_check.specs.Views.{indexed_text}
use Rattle.forec_check.specs.Instances.{count_at, count_of, capped_below}
use Rattle.forec_check.proofs.TableLemmas.{agrees_next, none_agree, all_agree}
use Rattle.forec_check.proofs.InstanceCounts.{nothing_counted}
use Rattle.forec_check.proofs.instances.counts.Goals as goal

pub loop-f-init : goal.loop-f-init
loop-f-init c =
    none_agree 0 (count_of (indexed_text c.args.index.now)) c.args.order.now (count_at c.new-table.result.items) (λ h. ap (λ t. count_at t h) c.new-table.ensures.items ∙ nothing_counted h)

pub loop-f-preserved : goal.loop-f-preserved
loop-f-preserved c =
    let text = indexed_text c.args.index.now in
    let k = c.loop-f.f-index in
    let step = c.requires.next k (count_at c.loop-f.table.items) c.loop-f-test.true c.loop-f.invariant in
    agrees_next 0 (count_of text) c.args.order.now k (count_at c.loop-f.table.items) (count_at c.put.new.table.items) c.count_function-value.result c.loop-f-test.true c.loop-f.invariant
    (c.count_function-value.ensures ∙ ap (λ t. capped_below text (count_at t) (get_or c.args.order.now k 0)) c.deref.ensures.value ∙ step) c.in_ok-put.ensures.ok

pub returns : goal.returns
returns c =
    let text = indexed_text c.args.index.now in
    all_agree 0 (count_of text) c.args.order.now (capped_below text) c.loop-f.f-index (count_at c.loop-f.table.items) c.requires c.loop-f-test.false c.loop-f.invariant
