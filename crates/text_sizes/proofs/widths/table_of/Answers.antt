use Rattle.std.proofs.Common.{ℕ, ◌≡◌, ◌∙◌, ap, subst, get_or}
use Rattle.loop_check.specs.Numbered.{put_entry}
use Rattle.loop_check.specs.Views.{indexed_text}
use Rattle.forec_check.proofs.TableLemmas.{agrees_next, none_agree, all_agree}
use Rattle.text_sizes.specs.Extents.{capped_size}
use Rattle.text_sizes.specs.Spans.{no_span, span_at, span_value, span_step}
use Rattle.text_sizes.proofs.Widening.{span_unknown}
use Rattle.text_sizes.proofs.widths.table_of.Goals as goal

pub loop-f-init : goal.loop-f-init
loop-f-init c =
    none_agree no_span (span_value (indexed_text c.args.index.now)) c.args.order.now (span_at c.new-table.result.items) (λ h. ap (λ t. span_at t h) c.new-table.ensures.items ∙ span_unknown h)

pub loop-f-preserved : goal.loop-f-preserved
loop-f-preserved c =
    let text = indexed_text c.args.index.now in
    let k = c.loop-f.f-index in
    let step = c.requires.next k (span_at c.loop-f.table.items) c.loop-f-test.true c.loop-f.invariant in
    agrees_next no_span (span_value text) c.args.order.now k (span_at c.loop-f.table.items) (span_at c.put.new.table.items) c.function_span-known.result c.loop-f-test.true c.loop-f.invariant
    (c.function_span-known.ensures ∙ ap (λ t. span_step capped_size text (span_at t) (get_or c.args.order.now k 0)) c.deref.ensures.value ∙ step)
    (subst (λ d. (h : ℕ) → get_or c.put.new.table.items h d ≡ put_entry (get_or c.args.order.now k 0) h c.function_span-known.result (get_or c.loop-f.table.items h d))
    c.no_span.ensures c.in_ok-put.ensures.ok)

pub returns : goal.returns
returns c =
    let text = indexed_text c.args.index.now in
    all_agree no_span (span_value text) c.args.order.now (span_step capped_size text) c.loop-f.f-index (span_at c.loop-f.table.items) c.requires c.loop-f-test.false c.loop-f.invariant
