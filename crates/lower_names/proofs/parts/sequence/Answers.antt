use Rattle.std.proofs.Common.{◌∙◌, arith}
use Rattle.forec_kernel.proofs.VecTerms.{stmt-sequence}
use Rattle.lower_names.proofs.Statements.{long_sequence}
use Rattle.lower_names.proofs.parts.sequence.Goals as goal

pub returns-then-len-gt1 : goal.returns-then-len-gt1
returns-then-len-gt1 c = let t = c.if-len-gt1.true in let e = c.len.ensures in stmt-sequence c.args.list ∙ long_sequence c.args.list.items (omega (arith, t, e))
