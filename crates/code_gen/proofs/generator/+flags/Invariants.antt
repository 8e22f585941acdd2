use Rattle.std.proofs.Common.{◌≡◌, drop, max}
use Rattle.forec_kernel.specs.Plain.{stmts}
use Rattle.code_gen.specs.Blocks.{flags_of}
use Rattle.code_gen.proofs.generator.+flags.Given as goal

abbrev pub invariant-flags_within-loop-statement : goal.invariant-flags_within-loop-statement
invariant-flags_within-loop-statement l = max l.most (flags_of (stmts (drop l.statement-index l.list))) ≡ flags_of (stmts l.fn.list)
