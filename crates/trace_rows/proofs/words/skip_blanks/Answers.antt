use Rattle.std.proofs.Common.{◌∙◌, sym, ap, arith}
use Rattle.trace_rows.specs.Words.{line_words}
use Rattle.trace_rows.proofs.Splitting.{words_of-blank}
use Rattle.trace_rows.proofs.words.skip_blanks.Goals as goal

pub blanks-preserved : goal.blanks-preserved
blanks-preserved c =
    let i = c.blanks.invariant in
    let e = c.in-Some.ensures.cases in
    let s = c.if-not-blank.ensures in
    record { words = sym (ap line_words e.0 ∙ words_of-blank c.in-Some.b.now c.in-Some.after.now (sym s)) ∙ i.words; shorter = omega (arith, e.1, i.shorter) }
