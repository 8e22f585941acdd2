use Rattle.std.proofs.Common.{rules, ◌≡◌, ◌++◌}
use Rattle.thread_code.specs.Plain.{plain_code}
use Rattle.trace_farm.proofs.Given.{joined}
use Rattle.trace_farm.proofs.halves.+by_halves+fn-by_halves-join+arg2+fn-by_halves-join+arg3.Goals as goal

pub returns : goal.returns
returns g t c =
    let plan = c.args.plan.now in
    let front = c.split_at.result.0.now in
    let back = c.split_at.result.1.now in
    let split : c.args.traces.now ≡ front ++ back = search rules in
    joined (plain_code c.args.code.now) plan.rows plan.budget c.args.traces.now front back c.join-first.result.0 c.join-first.result.1 c.both.result split
    c.join-first.ensures.first c.join-first.ensures.second c.both.ensures
