use Rattle.std.proofs.Common.{◌∙◌, sym, ap, subst, map}
use Rattle.forec_tree.specs.Plain as plain
use Rattle.forec_tree.specs.Pauses.{callees_of}
use Rattle.forec_tree.specs.Faults.{Leads}
use Rattle.loop_check.specs.Judges.{judge_text}
use Rattle.loop_check.specs.Views.{indexed_text}
use Rattle.loop_check.proofs.Ordered.{order_lent}
use Rattle.forec_check.specs.AccessCounts.{Orders}
use Rattle.forec_check.specs.Loops.{all_loops}
use Rattle.forec_check.proofs.Acyclic.{no_circle, no_reach}
use Rattle.forec_check.proofs.NamingTables.{orders_is}
use Rattle.forec_check.proofs.Lately.{both_late}
use Rattle.forec_check.proofs.rules.least_late.Goals as goal

pub judge_accesses-requires-clause-order : goal.judge_accesses-requires-clause-order
judge_accesses-requires-clause-order c =
    let text = indexed_text c.args.index.now in
    subst (λ o. Orders text o) (sym c.deref-4.ensures.value) (orders_is text _ _ _ c.requires.read (order_lent c.deref.ensures.value c.deref-2.ensures.value c.in_ok-order.ensures) (no_reach text c.args.names.now c.requires.early))

pub of-requires : goal.of-requires
of-requires c = λ f l. no_circle (indexed_text c.args.index.now) c.args.names.now c.requires.early f (subst (λ t. Leads (callees_of t) f f) c.requires.items l)

pub returns : goal.returns
returns c =
    let text = indexed_text c.args.index.now in
    both_late text c.args.names.now (judge_text c.in_ok-pauses.pauses) (all_loops (map plain.plain_item c.args.items.now)) c.judge_accesses.new.least c.judge_loops.new.least c.in_ok-judge_accesses.ensures
    (c.in_ok-pauses.ensures ∙ c.requires.items) (ap all_loops c.requires.items) c.judge_loops.ensures
