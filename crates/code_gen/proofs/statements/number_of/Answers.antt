use Rattle.std.proofs.Common.{sym, ◌∙◌}
use Rattle.code_gen.proofs.Numbers.{number_there, number_past}
use Rattle.code_gen.proofs.statements.number_of.Goals as goal

pub returns-then-first-threads : goal.returns-then-first-threads
returns-then-first-threads c =
    c.unwrap_or.ensures ∙ number_there c.args.threads.now c.args.branches.now c.in-Some.launch.now c.index-threads-first.result (sym c.in-Some.ensures.value) c.if-first-threads.true

pub returns-else-first-threads : goal.returns-else-first-threads
returns-else-first-threads c = number_past c.args.threads.now c.args.branches.now c.in-Some.launch.now (sym c.in-Some.ensures.value) c.if-first-threads.false
