use Rattle.std.proofs.Common.{◌∙◌, ap, get_or}
use Rattle.loop_check.specs.Views.{indexed_text}
use Rattle.forec_check.proofs.TableLemmas.{agrees_next, none_agree, all_agree}
use Rattle.text_sizes.specs.Extents.{no_extent, extent_at, extent_value, extent_step, capped_size}
use Rattle.text_sizes.proofs.Extending.{nothing_known}
use Rattle.text_sizes.proofs.extents.table_of.Goals as goal

pub loop-f-init : goal.loop-f-init
loop-f-init c =
    none_agree no_extent (extent_value (indexed_text c.args.index.now)) c.args.order.now (extent_at c.new-table.result.items) (λ h. ap (λ t. extent_at t h) c.new-table.ensures.items ∙ nothing_known h)

pub loop-f-preserved : goal.loop-f-preserved
loop-f-preserved c =
    let text = indexed_text c.args.index.now in
    let k = c.loop-f.f-index in
    let step = c.requires.next k (extent_at c.loop-f.table.items) c.loop-f-test.true c.loop-f.invariant in
    agrees_next no_extent (extent_value text) c.args.order.now k (extent_at c.loop-f.table.items) (extent_at c.put.new.table.items) c.function_extent-known.result c.loop-f-test.true c.loop-f.invariant
    (c.function_extent-known.ensures ∙ ap (λ t. extent_step capped_size text (extent_at t) (get_or c.args.order.now k 0)) c.deref.ensures.value ∙ step) c.in_ok-put.ensures.ok

pub returns : goal.returns
returns c =
    let text = indexed_text c.args.index.now in
    all_agree no_extent (extent_value text) c.args.order.now (extent_step capped_size text) c.loop-f.f-index (extent_at c.loop-f.table.items) c.requires c.loop-f-test.false c.loop-f.invariant
