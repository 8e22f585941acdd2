use Rattle.std.proofs.Common.{◌≡◌, ◌++◌, ◌∷◌, [], ◌+◌, take, ap, ap₂, ◌∙◌}
use Rattle.wave_dump.specs.Wave.{low_bits, output_letter}
use Rattle.wave_dump.proofs.WritingLemmas.{value_put}
use Rattle.wave_dump.proofs.waver.put_value.Goals as goal

pub returns-clause-front : goal.returns-clause-front
returns-clause-front c =
    c.put.ensures.front
    ∙ ap (λ x. x ++ (32 ∷ output_letter c.args.k ∷ 10 ∷ [])) (c.put-told.ensures.front ∙ ap₂ (λ x y. x ++ y) c.put-begun.ensures.front c.bits_of.ensures)
    ∙ value_put (take c.args.at c.args.buffer.now) (low_bits 32 c.args.word) (output_letter c.args.k)
