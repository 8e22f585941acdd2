use Rattle.std.proofs.Common.{◌≡◌, ◌+◌, ◌<◌, true, length, get_or, ◌∙◌, arith}
use Rattle.wave_dump.specs.Machine.{is_bit}
use Rattle.wave_dump.proofs.NumberLemmas.{bit_more, bit_stops, bits_done, bits_more, number_more, small_more}
use Rattle.wave_dump.proofs.numbers.number.Goals as goal

pub returns-in_default-clause-goes : goal.returns-in_default-clause-goes
returns-in_default-clause-goes c =
    λ w. c.loop-i.invariant.same w ∙ bit_stops c.args.bytes.now c.args.at c.loop-i.i w c.loop-i.invariant.within c.loop-i-test.true c.in_default.ensures.none

pub loop-i-preserved : goal.loop-i-preserved
loop-i-preserved c =
    let bytes = c.args.bytes.now in
    let at = c.args.at in
    let i = c.loop-i.i in
    let n = c.loop-i.number in
    let d = c.in-Some.digit in
    let some = c.in-Some.ensures.some in
    let low : at + i < length bytes = some.0 in
    let b : is_bit (get_or bytes (at + i) 0) ≡ true = some.1 in
    let inv = c.loop-i.invariant in
    record {
      within = omega arith;
      bits = bits_more bytes at i low inv.bits b;
      spells = number_more bytes at i n d low inv.spells some.2;
      small = small_more n d i inv.small some.3;
      same = λ w. inv.same w ∙ bit_more bytes at i w low c.loop-i-test.true b;
    }

pub returns-clause-goes : goal.returns-clause-goes
returns-clause-goes c =
    let e : c.loop-i.i ≡ 32 = omega arith in
    λ w. c.loop-i.invariant.same w ∙ bits_done c.args.bytes.now c.args.at c.loop-i.i w c.loop-i.number e c.loop-i.invariant.within c.loop-i.invariant.spells
