use Rattle.std.proofs.Common.{◌≡◌, map, drop}
use Rattle.forec_tree.specs.Plain as plain
use Rattle.fault_order.specs.Least.{least_from}
use Rattle.loop_check.specs.Judges.{judge_text}
use Rattle.forec_check.specs.Loops.{all_loops, loops_faults}
use Rattle.forec_check.proofs.rules.loops.judge_loops.Given as goal

abbrev pub invariant-loop-item : goal.invariant-loop-item
invariant-loop-item l =
    least_from l.least (loops_faults (judge_text l.pauses) (all_loops (map plain.plain_item (drop l.item-index l.items))))
    ≡ least_from l.fn.least (loops_faults (judge_text l.pauses) (all_loops (map plain.plain_item l.fn.items)))
