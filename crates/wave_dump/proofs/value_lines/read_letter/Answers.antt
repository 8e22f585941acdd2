use Rattle.std.proofs.Common.{◌+◌, ◌++◌, ◌∷◌, [], take, drop, refl, ◌∙◌}
use Rattle.std.specs.Int.{w32, cast_signed}
use Rattle.wave_dump.specs.Machine.{Letter, Body}
use Rattle.wave_dump.specs.Reading.{spot_with, signed_words, olds_at}
use Rattle.wave_dump.proofs.GoesLemmas.{goes_passed}
use Rattle.wave_dump.proofs.value_lines.read_letter.Goals as goal

pub returns-in_err-letter-clause-goes : goal.returns-in_err-letter-clause-goes
returns-in_err-letter-clause-goes c =
    λ names ticks now e. goes_passed c.from_residual.result c.in_err-letter.field-0.0 _ _ _ _ c.from_residual.ensures.1 refl (c.in_err-letter.ensures.goes (Letter (spot_with names ticks now (olds_at c.args.left.now.first c.args.left.now.words.now)) (cast_signed w32 c.args.word)))

pub returns-in_err-k-clause-goes : goal.returns-in_err-k-clause-goes
returns-in_err-k-clause-goes c =
    λ names ticks now e. goes_passed c.from_residual-in_err-k.result c.in_err-k.field-0.0 _ _ _ _ c.from_residual-in_err-k.ensures.1 (c.in_ok-letter.ensures.goes (Letter (spot_with names ticks now (olds_at c.args.left.now.first c.args.left.now.words.now)) (cast_signed w32 c.args.word))) (c.in_err-k.ensures.goes names ticks now e)

pub returns-clause-goes : goal.returns-clause-goes
returns-clause-goes c =
    let left = c.args.left.now.words.now in
    let k = c.in_ok-k.k in
    let v = cast_signed w32 c.args.word in
    λ names ticks now e. c.in_ok-letter.ensures.goes (Letter (spot_with names ticks now (olds_at c.args.left.now.first left)) v) ∙ c.in_ok-k.ensures.goes names ticks now e
    ∙ c.in_ok-next.ensures.goes (Body (spot_with names ticks (now ++ (signed_words (take k left) ++ v ∷ [])) (olds_at c.args.left.now.first (drop (k + 1) left))))

pub returns-in_err-next-clause-goes : goal.returns-in_err-next-clause-goes
returns-in_err-next-clause-goes c =
    let left = c.args.left.now.words.now in
    let k = c.in_ok-k.k in
    let v = cast_signed w32 c.args.word in
    λ names ticks now e. goes_passed c.from_residual-in_err-next.result c.in_err-next.field-0.0 _ _ _ _ c.from_residual-in_err-next.ensures.1 (c.in_ok-letter.ensures.goes (Letter (spot_with names ticks now (olds_at c.args.left.now.first left)) v) ∙ c.in_ok-k.ensures.goes names ticks now e)
    (c.in_err-next.ensures.goes (Body (spot_with names ticks (now ++ (signed_words (take k left) ++ v ∷ [])) (olds_at c.args.left.now.first (drop (k + 1) left)))))
