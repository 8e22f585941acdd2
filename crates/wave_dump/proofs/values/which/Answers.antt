use Rattle.std.proofs.Common.{rules, ◌≡◌, ◌+◌, ◌-◌, ◌<◌, ◌≤◌, ◌++◌, ◌∷◌, [], length, take, drop, get_or, arith}
use Rattle.std.specs.Int.{w32, cast_signed}
use Rattle.wave_dump.specs.Reading.{signed_words, olds_at}
use Rattle.wave_dump.proofs.ValueLemmas.{letter_past, letter_taken}
use Rattle.wave_dump.proofs.values.which.Goals as goal

pub returns-then-k-left-clause-goes : goal.returns-then-k-left-clause-goes
returns-then-k-left-clause-goes c =
    let bytes = c.args.bytes.now in
    let at = c.args.at in
    let j = c.args.left.now.output in
    let left = c.args.left.now.words.now in
    let k = c.from-letter.result - 33 - j in
    let l : c.from-letter.result ≡ get_or bytes at 0 = search rules in
    let low : at < length bytes = omega arith in
    let b : get_or bytes at 0 ≡ 33 + j + k = omega arith in
    let high : length left ≤ k = omega arith in
    λ names ticks now e. letter_past bytes at j k c.args.left.now.first left names ticks now (cast_signed w32 c.args.word) low e b high

pub returns-then-may_be-clause-goes : goal.returns-then-may_be-clause-goes
returns-then-may_be-clause-goes c =
    let bytes = c.args.bytes.now in
    let at = c.args.at in
    let j = c.args.left.now.output in
    let left = c.args.left.now.words.now in
    let k = c.from-letter.result - 33 - j in
    let v = cast_signed w32 c.args.word in
    let l : c.from-letter.result ≡ get_or bytes at 0 = search rules in
    let low : at < length bytes = omega arith in
    let b : get_or bytes at 0 ≡ 33 + j + k = omega arith in
    λ names ticks now e. letter_taken bytes at j k names ticks now (signed_words (take k left) ++ v ∷ []) (olds_at c.args.left.now.first left) (olds_at c.args.left.now.first (drop (k + 1) left)) v low e b (c.may_be.ensures.yes c.if-may_be.true)
