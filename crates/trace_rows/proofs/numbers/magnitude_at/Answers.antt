use Rattle.std.proofs.Common.{Some, refl, sym, ap, ◌∙◌, arith, min}
use Rattle.std.specs.Option.{option_map}
use Rattle.trace_rows.proofs.Digits.{word_is_digits, magnitude_is, magnitude_not}
use Rattle.trace_rows.proofs.numbers.magnitude_at.Goals as goal

pub returns-then-not-ends_word-clause-none : goal.returns-then-not-ends_word-clause-none
returns-then-not-ends_word-clause-none c =
    let e = c.if-not-ends_word.ensures.no refl in
    magnitude_not c.args.text.now c.digits_at-digits.result.count c.digits_at-digits.ensures.count e.0 e.1

pub returns-clause-some : goal.returns-clause-some
returns-clause-some c =
    let n = c.digits_at-digits.result.count in
    let d = c.digits_at-digits.ensures in (
      word_is_digits c.args.text.now n d.count (c.if-not-ends_word.ensures.yes refl),
      ap (option_map (min 10000000000)) (magnitude_is c.args.text.now n d.count (let some = c.if-digits-eq0.false in omega arith)) ∙ ap Some (sym d.value),
    )
