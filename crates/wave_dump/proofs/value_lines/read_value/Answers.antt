use Rattle.std.proofs.Common.{◌≡◌, ℕ, ℤ, ◌+◌, List, sym, ◌∙◌}
use Rattle.std.specs.Int.{w32, cast_signed}
use Rattle.wave_dump.specs.Machine.{Body}
use Rattle.wave_dump.specs.Reading.{dump_from, dump_behind_bits, spot_with, olds_at}
use Rattle.wave_dump.proofs.GoesLemmas.{goes_passed}
use Rattle.wave_dump.proofs.ValueLemmas.{value_opens, value_never, value_goes}
use Rattle.wave_dump.proofs.value_lines.read_value.Goals.{In_ok-word}
use Rattle.wave_dump.proofs.value_lines.read_value.Goals as goal

-- its bits were read
reads : (c : In_ok-word) (names : List (List ℕ)) (ticks : List (List ℤ)) (now : List ℤ) →
    let w = spot_with names ticks now (olds_at c.args.left.now.first c.args.left.now.words.now) in
    dump_from c.args.bytes.now c.args.at (Body w) ≡ dump_behind_bits c.args.bytes.now (c.args.at + 1 + 32) w (cast_signed w32 c.in_ok-word.word)
reads c names ticks now =
    let left = c.args.left.now.words.now in
    value_opens c.args.bytes.now c.args.at names ticks now c.args.left.now.first left c.requires.begins.0 c.requires.begins.1 c.requires.some ∙ c.in_ok-word.ensures.goes (spot_with names ticks now (olds_at c.args.left.now.first left))

pub returns-in_err-word-clause-goes : goal.returns-in_err-word-clause-goes
returns-in_err-word-clause-goes c =
    let bytes = c.args.bytes.now in
    let left = c.args.left.now.words.now in
    λ names ticks now e. goes_passed c.from_residual.result c.in_err-word.field-0.0 _ _ _ _ c.from_residual.ensures.1 (value_opens bytes c.args.at names ticks now c.args.left.now.first left c.requires.begins.0 c.requires.begins.1 c.requires.some)
    (c.in_err-word.ensures.goes (spot_with names ticks now (olds_at c.args.left.now.first left)))

pub returns-then-can_have-clause-goes : goal.returns-then-can_have-clause-goes
returns-then-can_have-clause-goes c =
    let at = goal.at.returns-then-can_have-clause-goes c in
    λ names ticks now e. reads at.In_ok-word names ticks now ∙ value_goes c.args.bytes.now c.args.at (spot_with names ticks now (olds_at c.args.left.now.first c.args.left.now.words.now)) (cast_signed w32 c.in_ok-word.word) (sym c.can_have.ensures ∙ c.if-can_have.true) ∙ c.in_ok-output.ensures.goes names ticks now e

pub returns-in_err-output-clause-goes : goal.returns-in_err-output-clause-goes
returns-in_err-output-clause-goes c =
    let at = goal.at.returns-in_err-output-clause-goes c in
    λ names ticks now e. goes_passed c.from_residual-in_err-output.result c.in_err-output.field-0.0 _ _ _ _ c.from_residual-in_err-output.ensures.1
    (reads at.In_ok-word names ticks now ∙ value_goes c.args.bytes.now c.args.at (spot_with names ticks now (olds_at c.args.left.now.first c.args.left.now.words.now)) (cast_signed w32 c.in_ok-word.word) (sym c.can_have.ensures ∙ c.if-can_have.true)) (c.in_err-output.ensures.goes names ticks now e)

pub returns-clause-goes : goal.returns-clause-goes
returns-clause-goes c =
    let at = goal.at.returns-clause-goes c in
    λ names ticks now e. reads at.In_ok-word names ticks now ∙ value_never c.args.bytes.now c.args.at (spot_with names ticks now (olds_at c.args.left.now.first c.args.left.now.words.now)) (cast_signed w32 c.in_ok-word.word) (sym c.can_have.ensures ∙ c.if-can_have.false)
