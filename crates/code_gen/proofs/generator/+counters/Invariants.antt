use Rattle.std.proofs.Common.{◌≡◌, drop, max}
use Rattle.forec_kernel.specs.Plain.{stmts}
use Rattle.code_gen.specs.Blocks.{counters_of}
use Rattle.code_gen.proofs.generator.+counters.Given as goal

abbrev pub invariant-counters_within-loop-statement : goal.invariant-counters_within-loop-statement
invariant-counters_within-loop-statement l = max l.most (counters_of (stmts (drop l.statement-index l.list))) ≡ counters_of (stmts l.fn.list)
