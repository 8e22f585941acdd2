use Rattle.std.proofs.Common.{◌≡◌, drop}
use Rattle.forec_tree.specs.Plain as plain
use Rattle.forec_tree.specs.Rules as rules
use Rattle.program_walk.proofs.rules.items.+returns.Given as goal

abbrev pub invariant-any_returns-loop-s : goal.invariant-any_returns-loop-s
invariant-any_returns-loop-s l = rules.some_always_returns (plain.statements (drop l.s-index l.body)) ≡ rules.some_always_returns (plain.statements l.fn.body)
