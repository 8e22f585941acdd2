use Rattle.loop_check.specs.Graph.{callees}
use Rattle.forec_check.specs.Table.{Agrees}
use Rattle.kernel_drafts.specs.Reach.{value_at, chain_value}
use Rattle.kernel_drafts.proofs.reach.sums.Given as goal

abbrev pub invariant-loop-f : goal.invariant-loop-f
invariant-loop-f l = Agrees 0 (chain_value l.own (callees l.lists)) l.order l.f-index (value_at l.table.items)
