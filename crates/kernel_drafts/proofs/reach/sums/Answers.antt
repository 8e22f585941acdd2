use Rattle.std.proofs.Common.{◌∙◌, ◌+◌, ◌-◌, ◌^◌, min, ap, get_or}
use Rattle.forec_kernel.specs.WellFormed.{greatest}
use Rattle.loop_check.specs.Graph.{callees}
use Rattle.forec_check.proofs.TableLemmas.{agrees_next}
use Rattle.kernel_drafts.specs.Reach.{value_at, chain_value}
use Rattle.kernel_drafts.proofs.reach.sums.Goals as goal

pub loop-f-preserved : goal.loop-f-preserved
loop-f-preserved c =
    let calls = callees c.args.lists.now in
    let k = c.loop-f.f-index in
    let f = get_or c.args.order.now k 0 in
    let table = value_at c.loop-f.table.items in
    let step = c.requires.next k table c.loop-f-test.true c.loop-f.invariant in
    agrees_next 0 (chain_value c.args.own.now calls) c.args.order.now k table (value_at c.put.new.table.items) c.add-known.result c.loop-f-test.true c.loop-f.invariant
    (c.add-known.ensures
    ∙ (ap (λ a. min (a + c.greatest-below.result) (2 ^ 64 - 1)) c.value.ensures
    ∙ (ap (λ a. min (value_at c.args.own.now f + a) (2 ^ 64 - 1))
    (c.greatest-below.ensures ∙ (ap (λ t. greatest (value_at t) c.called.result.now) c.deref.ensures.value ∙ ap (greatest table) c.called.ensures)) ∙ step))) c.in_ok-put.ensures.ok
