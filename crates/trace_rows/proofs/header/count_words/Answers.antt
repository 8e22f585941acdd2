use Rattle.std.proofs.Common.{length, ap, arith}
use Rattle.trace_rows.proofs.header.count_words.Goals as goal

pub words-preserved : goal.words-preserved
words-preserved c =
    let i = c.words.invariant in
    let w = c.in-Some.ensures.some in
    record { count = omega (arith, i.count, ap length w.0); few = omega (arith, i.few, w.1) }

pub returns : goal.returns
returns c =
    let i = c.words.invariant in
    omega (arith, i.count, ap length c.in_default.ensures.none)
