use Rattle.std.proofs.Common.{◌∙◌, sym, arith}
use Rattle.forec_tree.specs.declared.token.Mark.TheVariants as sign
use Rattle.forec_lexer.specs.Reading.{marks}
use Rattle.forec_lexer.proofs.Tables.{hit, miss, none_left}
use Rattle.forec_lexer.proofs.marks.mark_ahead.Goals as goal

pub returns-then-starts_with : goal.returns-then-starts_with
returns-then-starts_with c =
    sym (c.loop-mark.invariant ∙ hit marks c.loop-mark.mark-index sign.ShlAssign c.args.text.now c.spelling-bytes.result.now (omega arith) c.spelling-bytes.ensures (sym c.starts_with.ensures.value ∙ c.if-starts_with.true))

pub loop-mark-preserved : goal.loop-mark-preserved
loop-mark-preserved c =
    c.loop-mark.invariant ∙ miss marks c.loop-mark.mark-index sign.ShlAssign c.args.text.now c.spelling-bytes.result.now (omega arith) c.spelling-bytes.ensures (sym c.starts_with.ensures.value ∙ c.if-starts_with.false)

pub returns : goal.returns
returns c = sym (c.loop-mark.invariant ∙ none_left marks c.loop-mark.mark-index c.args.text.now (omega arith))
