use Rattle.std.proofs.Common.{◌∙◌, sym, arith}
use Rattle.forec_tree.specs.declared.token.Word.TheVariants as reserved
use Rattle.forec_lexer.specs.Reading.{words}
use Rattle.forec_lexer.proofs.Tables.{word_hit, word_miss, no_word_left}
use Rattle.forec_lexer.proofs.words.word_of.Goals as goal

pub returns-then-eq : goal.returns-then-eq
returns-then-eq c =
    sym (c.loop-word.invariant ∙ word_hit words c.loop-word.word-index reserved.Int c.args.run.now c.letters.result.now (omega arith) c.letters.ensures (sym c.eq.ensures ∙ c.if-eq.true))

pub loop-word-preserved : goal.loop-word-preserved
loop-word-preserved c =
    c.loop-word.invariant ∙ word_miss words c.loop-word.word-index reserved.Int c.args.run.now c.letters.result.now (omega arith) c.letters.ensures (sym c.eq.ensures ∙ c.if-eq.false)

pub returns : goal.returns
returns c = sym (c.loop-word.invariant ∙ no_word_left words c.loop-word.word-index c.args.run.now (omega arith))
