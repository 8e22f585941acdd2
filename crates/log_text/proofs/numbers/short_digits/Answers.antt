use Rattle.std.proofs.Common.{◌≡◌, true, get_or, refl, sym, ◌∙◌, arith}
use Rattle.std.specs.Char.{is_ascii_digit}
use Rattle.log_text.proofs.DigitLemmas.{ascii_range}
use Rattle.log_text.proofs.DigitRuns.{one_digit_more, short_more}
use Rattle.log_text.proofs.numbers.short_digits.Goals as goal

pub loop-end-preserved : goal.loop-end-preserved
loop-end-preserved c =
    let yes : is_ascii_digit (get_or c.args.bytes.now c.loop-end.end 0) ≡ true = sym c.is_ascii_digit.ensures.value ∙ c.if-is_ascii_digit.true in
    let range = ascii_range (get_or c.args.bytes.now c.loop-end.end 0) yes in
    one_digit_more c.args.bytes.now c.args.at c.loop-end.end (get_or c.args.bytes.now c.loop-end.end 0) _ _ c.loop-end.invariant
    c.loop-end-test.true refl range.0 range.1 (short_more c.loop-end.number c.from.result (get_or c.args.bytes.now c.loop-end.end 0) (omega arith) c.from.ensures range.1)
