use Rattle.std.proofs.Common.{◌+◌, ◌*◌, max, drop}
use Rattle.forec_kernel.specs.Plain.{expr, exprs, stmt, stmts}
use Rattle.forec_kernel.specs.Shapes.{plain_kernel}
use Rattle.forec_kernel.specs.Values.{vals, flows}
use Rattle.forec_kernel.specs.WellFormed.{expr_depth, exprs_depth, stmt_depth, stmts_depth}
use Rattle.running_texts.specs.Metered.{setting_within, sight_of, bounded_flow}
use Rattle.running_texts.proofs.Falls.{below_calls}
use Rattle.running_texts.proofs.Onward.{NumbersSoFar, FlowSoFar}
use Rattle.running_texts.proofs.evaluation.+evaluation.Given as goal

abbrev pub decreases-call_function : goal.decreases-call_function
decreases-call_function l = below_calls l.kernel.now l.deep

abbrev pub decreases-evaluate : goal.decreases-evaluate
decreases-evaluate l = below_calls l.kernel.now l.deep + 2 * expr_depth (expr l.e.now)

abbrev pub decreases-evaluate_and : goal.decreases-evaluate_and
decreases-evaluate_and l = below_calls l.kernel.now l.deep + 2 * max (expr_depth (expr l.first.now)) (expr_depth (expr l.second.now)) + 1

abbrev pub decreases-evaluate_or : goal.decreases-evaluate_or
decreases-evaluate_or l = below_calls l.kernel.now l.deep + 2 * max (expr_depth (expr l.first.now)) (expr_depth (expr l.second.now)) + 1

abbrev pub decreases-evaluate_all : goal.decreases-evaluate_all
decreases-evaluate_all l = below_calls l.kernel.now l.deep + 2 * exprs_depth (exprs l.list.now) + 1

abbrev pub decreases-run : goal.decreases-run
decreases-run l = below_calls l.kernel.now l.deep + 2 * stmt_depth (stmt l.s.now)

abbrev pub decreases-run_all : goal.decreases-run_all
decreases-run_all l = below_calls l.kernel.now l.deep + 2 * stmts_depth (stmts l.list.now) + 1

abbrev pub decreases-run_turns : goal.decreases-run_turns
decreases-run_turns l = below_calls l.kernel.now l.deep + 2 * max (expr_depth (expr l.bounded.now.test.now)) (stmt_depth (stmt l.bounded.now.body.now)) + 1

abbrev pub invariant-evaluate_all-loop-e : goal.invariant-evaluate_all-loop-e
invariant-evaluate_all-loop-e l =
    NumbersSoFar l.initial.left l.left l.numbers.items
    (vals (setting_within (plain_kernel l.kernel) l.deep) (sight_of l.values) (exprs l.list))
    (vals (setting_within (plain_kernel l.kernel) l.deep) (sight_of l.values) (exprs (drop l.e-index l.list)))

abbrev pub invariant-run_all-loop-s : goal.invariant-run_all-loop-s
invariant-run_all-loop-s l =
    FlowSoFar l.initial.left l.left
    (flows (setting_within (plain_kernel l.kernel) l.deep) (stmts l.list) l.initial.words.items)
    (flows (setting_within (plain_kernel l.kernel) l.deep) (stmts (drop l.s-index l.list)) l.words.items)

abbrev pub invariant-run_turns-turns : goal.invariant-run_turns-turns
invariant-run_turns-turns l =
    FlowSoFar l.initial.left l.left
    (bounded_flow (plain_kernel l.kernel) l.deep l.bounded l.initial.words.items)
    (bounded_flow (plain_kernel l.kernel) l.deep (record l.bounded { bound = l.turns_left }) l.words.items)

abbrev pub decreases-run_turns-turns : goal.decreases-run_turns-turns
decreases-run_turns-turns l = l.turns_left
