use Rattle.std.proofs.Common.{◌≡◌, ℕ, List, ◌+◌, ◌-◌, ◌<◌, ◌++◌, ◌∷◌, [], length, take, drop, set, refl, ap, ◌∙◌, arith, length-take-le, length-set, length-drop}
use Rattle.std.specs.Int.{w32, cast_signed}
use Rattle.std.proofs.lemmas.List.{take_rest}
use Rattle.wave_dump.specs.Machine.{Body}
use Rattle.wave_dump.specs.Reading.{dump_from, dump_between, spot_with, signed_words, olds_at}
use Rattle.wave_dump.proofs.GoesLemmas.{goes_passed, goes_after}
use Rattle.wave_dump.proofs.Between.{length_signed}
use Rattle.wave_dump.proofs.AllLemmas.{goes_next, signed_whole, spot_after, left_part}
use Rattle.wave_dump.proofs.value_lines.read_values.Goals as goal

pub returns-in_err-found-clause-goes : goal.returns-in_err-found-clause-goes
returns-in_err-found-clause-goes c =
    let j = c.loop-j.j in
    let values = c.loop-j.values in
    let inv = c.loop-j.invariant in
    let len : length (signed_words (take j values)) ≡ j = length_signed (take j values) ∙ length-take-le j values inv.low in
    λ names ticks. goes_passed c.from_residual.result c.in_err-found.field-0.0 _ _ _ _ c.from_residual.ensures.1 (inv.same names ticks ∙ left_part c.args.bytes.now c.loop-j.at names ticks (signed_words (take j values)) c.args.first values j)
    (c.in_err-found.ensures.goes names ticks (signed_words (take j values)) len)

pub loop-j-preserved : goal.loop-j-preserved
loop-j-preserved c =
    let bytes = c.args.bytes.now in
    let at = c.loop-j.at in
    let j = c.loop-j.j in
    let values = c.loop-j.values in
    let inv = c.loop-j.invariant in
    let k = c.in_ok-found.found.output in
    let w = c.in_ok-found.found.word in
    let next = c.in_ok-found.found.next in
    let part : take (length values - j) (drop j values) ≡ drop j values = take_rest values j in
    let in_left = c.in_ok-found.ensures.within in
    let few : k < length (take (length values - j) (drop j values)) = in_left.0 in
    let rest : length (take (length values - j) (drop j values)) ≡ length values - j = ap length part ∙ length-drop j values in
    let low : j + k < length values = omega arith in
    let size : length (set values (j + k) w) ≡ length values = length-set values (j + k) w in
    let past : at < next = in_left.1 in
    let len : length (signed_words (take j values)) ≡ j = length_signed (take j values) ∙ length-take-le j values inv.low in
    record {
      low = omega arith;
      count = size ∙ inv.count;
      place = omega arith;
      within = in_left.2;
      same = λ names ticks. inv.same names ticks
          ∙ left_part bytes at names ticks (signed_words (take j values)) c.args.first values j
          ∙ c.in_ok-found.ensures.goes names ticks (signed_words (take j values)) len
          ∙ ap (λ (l : List ℕ). dump_from bytes next (Body (spot_with names ticks (signed_words (take j values) ++ (signed_words (take k l) ++ cast_signed w32 w ∷ [])) (olds_at c.args.first (drop (k + 1) l))))) part
          ∙ spot_after bytes next names ticks c.args.first values (set values (j + k) w) j k w low refl;
    }

pub returns-clause-goes : goal.returns-clause-goes
returns-clause-goes c =
    let j = c.loop-j.j in
    let values = c.loop-j.values in
    λ names ticks. goes_next c.end_values.result _ _ _ (λ next. ap (λ l. dump_between c.args.bytes.now next names (ticks ++ l ∷ [])) (ap (λ (l : List ℕ). signed_words (take j values) ++ signed_words l) (take_rest values j) ∙ signed_whole values j))
    (goes_after c.end_values.result _ _ _ (c.loop-j.invariant.same names ticks ∙ left_part c.args.bytes.now c.loop-j.at names ticks (signed_words (take j values)) c.args.first values j)
    (c.end_values.ensures.goes names ticks (signed_words (take j values))))
