use Rattle.std.proofs.Common.{◌∙◌, sym, ap}
use Rattle.forec_tree.specs.declared.tree.Item.{Item}
use Rattle.forec_tree.specs.Plain as plain
use Rattle.fault_order.specs.Least.{least_from}
use Rattle.loop_check.specs.Judges.{judge_text}
use Rattle.forec_check.specs.Loops.{item_loops, loops_in_all, loops_faults}
use Rattle.forec_check.proofs.LoopLemmas.{none_here, item_step, items_end}
use Rattle.forec_check.proofs.rules.loops.judge_loops.Goals as goal
use Rattle.forec_check.proofs.rules.loops.judge_loops.Goals.{in-Function, in-Global}

pub loop-item-preserved : goal.loop-item-preserved
loop-item-preserved c =
    let text = judge_text c.args.pauses.now in
    let F = λ (i : Item). least_from c.loop-item.least (loops_faults text (item_loops (plain.plain_item i))) in
    item_step text c.args.items.now c.loop-item.item-index c.item-item.result c.loop-item.least c.match-item.least _ c.loop-item-test.true (sym c.item-item.is)
    (elim c.match-item.branch [
      | in-Function w ↦
          w.least-is ∙ w.judge_statements.ensures.least ∙ ap (λ b. least_from c.loop-item.least (loops_faults text (loops_in_all (plain.statements b)))) w.as_slice.ensures ∙ sym (ap F w.in-Function.is)
      | in-Global w ↦ w.least-is ∙ none_here text c.loop-item.least ∙ sym (ap F w.in-Global.is)
    ]) c.loop-item.invariant

pub returns : goal.returns
returns c = items_end (judge_text c.args.pauses.now) c.args.items.now c.loop-item.item-index c.loop-item.least _ c.loop-item-test.false c.loop-item.invariant
