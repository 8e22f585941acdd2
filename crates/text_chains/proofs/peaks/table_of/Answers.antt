use Rattle.std.proofs.Common.{ℕ, ◌≡◌, ◌∙◌, ap, subst, get_or}
use Rattle.loop_check.specs.Numbered.{put_entry}
use Rattle.loop_check.specs.Views.{indexed_text}
use Rattle.forec_check.proofs.TableLemmas.{agrees_next, none_agree, all_agree}
use Rattle.text_chains.specs.Tallies.{no_tally, tally_at, tally_step, tally_value}
use Rattle.text_chains.specs.Views.{value_by}
use Rattle.text_chains.proofs.Agreeing.{tally_unknown}
use Rattle.text_chains.proofs.peaks.table_of.Goals as goal

pub loop-f-init : goal.loop-f-init
loop-f-init c =
    let w = c.args.w.now in
    none_agree no_tally (tally_value w.variable w.array (value_by w) w.worth (indexed_text w.globals.now.index)) c.args.order.now (tally_at c.new-table.result.items) (λ h. ap (λ t. tally_at t h) c.new-table.ensures.items ∙ tally_unknown h)

pub loop-f-preserved : goal.loop-f-preserved
loop-f-preserved c =
    let w = c.args.w.now in
    let text = indexed_text w.globals.now.index in
    let k = c.loop-f.f-index in
    let settles = c.requires w.variable w.array (value_by w) w.worth in
    let step = settles.next k (tally_at c.loop-f.table.items) c.loop-f-test.true c.loop-f.invariant in
    agrees_next no_tally (tally_value w.variable w.array (value_by w) w.worth text) c.args.order.now k (tally_at c.loop-f.table.items) (tally_at c.put.new.table.items) c.function_tally-known.result c.loop-f-test.true c.loop-f.invariant
    (c.function_tally-known.ensures ∙ ap (λ t. tally_step w.variable w.array (value_by w) w.worth text (tally_at t) (get_or c.args.order.now k 0)) c.deref.ensures.value ∙ step)
    (subst (λ d. (h : ℕ) → get_or c.put.new.table.items h d ≡ put_entry (get_or c.args.order.now k 0) h c.function_tally-known.result (get_or c.loop-f.table.items h d))
    c.nothing.ensures c.in_ok-put.ensures.ok)

pub returns : goal.returns
returns c =
    let w = c.args.w.now in
    let text = indexed_text w.globals.now.index in
    all_agree no_tally (tally_value w.variable w.array (value_by w) w.worth text) c.args.order.now (tally_step w.variable w.array (value_by w) w.worth text) c.loop-f.f-index (tally_at c.loop-f.table.items) (c.requires w.variable w.array (value_by w) w.worth) c.loop-f-test.false c.loop-f.invariant
