use Rattle.std.proofs.Common.{arith}
use Rattle.text_sizes.proofs.Tallied.{terms_length}
use Rattle.text_sizes.proofs.span.arguments.Goals as goal

pub returns : goal.returns
returns c = let l = terms_length c.args.args.now in omega (arith, l)
