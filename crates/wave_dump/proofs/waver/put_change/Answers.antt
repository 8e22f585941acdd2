use Rattle.std.proofs.Common.{rules, ◌≡◌, ◌++◌, true, false, take, get_or, pos, sym, ap, ◌∙◌}
use Rattle.std.specs.Int.{w32, cast_unsigned}
use Rattle.wave_dump.specs.Wave.{is_kept, bits_line, low_bits}
use Rattle.wave_dump.specs.Writing.{value_before}
use Rattle.wave_dump.proofs.WritingLemmas.{change_kept, change_new}
use Rattle.wave_dump.proofs.waver.put_change.Goals as goal

pub returns-then-stays-clause-front : goal.returns-then-stays-clause-front
returns-then-stays-clause-front c =
    let k = c.args.k in
    change_kept k (value_before c.args.first (get_or c.args.last.now k (pos 0))) (get_or c.args.values.now k (pos 0)) (take c.args.at c.args.buffer.now)
    (sym c.stays.ensures ∙ c.if-stays.true)

pub returns-clause-front : goal.returns-clause-front
returns-clause-front c =
    let k = c.args.k in
    let v = get_or c.args.values.now k (pos 0) in
    let word : c.cast_unsigned-word.result ≡ cast_unsigned w32 v = search rules in
    c.put_value.ensures.front
    ∙ ap (λ n. take c.args.at c.args.buffer.now ++ bits_line k (low_bits 32 n)) word
    ∙ change_new k (value_before c.args.first (get_or c.args.last.now k (pos 0))) v (take c.args.at c.args.buffer.now) (sym c.stays.ensures ∙ c.if-stays.false)
