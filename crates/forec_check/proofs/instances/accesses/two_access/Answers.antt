use Rattle.std.proofs.Common.{◌≡◌, ◌∙◌, ap, subst, get_or}
use Rattle.forec_check.specs.AccessScan.{no_access}
use Rattle.loop_check.specs.Numbered.{put_entry}
use Rattle.loop_check.specs.Views.{indexed_text}
use Rattle.forec_check.specs.AccessCounts.{capped_access, capped_step, no_access_count, called_access, access_of, access_value}
use Rattle.forec_check.proofs.TableLemmas.{agrees_next, none_agree, all_agree}
use Rattle.forec_check.proofs.NamingTables.{put_capped, nothing_called, two_is}
use Rattle.forec_check.proofs.instances.accesses.two_access.Goals as goal

pub loop-f-init : goal.loop-f-init
loop-f-init c =
    none_agree no_access (access_value (indexed_text c.args.index.now) c.args.g) c.args.order.now (called_access c.new-table.result.items) (λ h. ap (λ t. called_access t h) c.new-table.ensures.items ∙ nothing_called h)

pub loop-f-preserved : goal.loop-f-preserved
loop-f-preserved c =
    let text = indexed_text c.args.index.now in
    let value = access_value text c.args.g in
    let table = c.loop-f.table.items in
    let k = c.loop-f.f-index in
    let f = get_or c.args.order.now k 0 in
    let step = (c.requires.order.settles c.args.g).next k (called_access table) c.loop-f-test.true c.loop-f.invariant in
    agrees_next no_access value c.args.order.now k (called_access table) (called_access c.put.new.table.items) (capped_access (access_of c.in_ok-value.value)) c.loop-f-test.true c.loop-f.invariant
    (c.in_ok-value.ensures ∙ ap (λ t. capped_step text c.args.g (called_access t) f) c.deref.ensures.value ∙ step)
    (λ h. put_capped f h c.in_ok-value.value (get_or table h no_access_count) (get_or c.put.new.table.items h no_access_count)
    (subst (λ d. get_or c.put.new.table.items h d ≡ put_entry f h c.in_ok-value.value (get_or table h d)) c.no_access_count.ensures (c.in_ok-put.ensures.ok h)))

pub returns : goal.returns
returns c =
    let text = indexed_text c.args.index.now in
    let table = c.loop-f.table.items in
    let value = all_agree no_access (access_value text c.args.g) c.args.order.now (capped_step text c.args.g) c.loop-f.f-index (called_access table) (c.requires.order.settles c.args.g) c.loop-f-test.false c.loop-f.invariant in
    two_is text c.args.g c.args.first table c.access_count.result c.instances.result (c.access_count.ensures ∙ ap (λ t. called_access t c.args.first) c.deref-2.ensures.value) (value c.args.first) c.instances.ensures
