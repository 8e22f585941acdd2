use Rattle.std.proofs.Common.{◌≡◌, ◌||◌, drop}
use Rattle.forec_tree.specs.Plain as plain
use Rattle.forec_tree.specs.Pauses as pauses
use Rattle.fault_order.specs.Least.{least_from}
use Rattle.loop_check.specs.Judges.{judge_text}
use Rattle.forec_check.specs.Loops.{loops_in_all, loops_in_branches, loops_faults}
use Rattle.forec_check.proofs.rules.loops.+loops.Given as goal

abbrev pub invariant-judge_statements-loop-s : goal.invariant-judge_statements-loop-s
invariant-judge_statements-loop-s l =
    let text = judge_text l.pauses in
    record {
      certain : (l.found || pauses.some_certain text (pauses.certain_function text) (plain.statements (drop l.s-index l.list)))
          ≡ pauses.some_certain text (pauses.certain_function text) (plain.statements l.fn.list);
      least : least_from l.least (loops_faults text (loops_in_all (plain.statements (drop l.s-index l.list)))) ≡ least_from l.fn.least (loops_faults text (loops_in_all (plain.statements l.fn.list)));
    }

abbrev pub invariant-judge_branches-loop-branch : goal.invariant-judge_branches-loop-branch
invariant-judge_branches-loop-branch l =
    let text = judge_text l.pauses in
    record {
      certain : (l.found || pauses.branch_certain text (pauses.certain_function text) (plain.branches (drop l.branch-index l.list)))
          ≡ pauses.branch_certain text (pauses.certain_function text) (plain.branches l.fn.list);
      least : least_from l.least (loops_faults text (loops_in_branches (plain.branches (drop l.branch-index l.list)))) ≡ least_from l.fn.least (loops_faults text (loops_in_branches (plain.branches l.fn.list)));
    }
