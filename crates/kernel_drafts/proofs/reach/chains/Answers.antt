use Rattle.std.proofs.Common.{sym, subst, length, arith}
use Rattle.forec_kernel.specs.WellFormed.{count_up}
use Rattle.loop_check.specs.Graph.{callees, IsOrder}
use Rattle.forec_check.specs.Table.{Settles}
use Rattle.kernel_drafts.specs.Reach.{chain_step, chain_value}
use Rattle.kernel_drafts.proofs.ReachLemmas.{chains_settle, count_long}
use Rattle.kernel_drafts.proofs.reach.chains.Goals as goal

pub sums-requires : goal.sums-requires
sums-requires c =
    let own = c.args.own.now in
    let lists = c.args.lists.now in
    let order = c.in_ok-order.order.items in
    let ordered : IsOrder (count_up 0 (length own)) (callees lists) order =
    subst (λ f. IsOrder f (callees lists) order) c.in_ok-functions.ensures (subst (λ f. IsOrder f (callees lists) order) c.deref.ensures.value c.in_ok-order.ensures) in
    let short = ordered.short in
    let n = count_long 0 (length own) in
    subst (λ o. Settles 0 (chain_step own (callees lists)) (chain_value own (callees lists)) o) (sym c.deref-2.ensures.value)
    (chains_settle own lists order ordered c.requires.long c.requires.free (omega (arith, short, n)))
