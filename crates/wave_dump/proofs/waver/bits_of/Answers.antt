use Rattle.std.proofs.Common.{rules, ◌≡◌, ◌<◌, length, refl, arith, append-nil, length-set, ◌∙◌}
use Rattle.wave_dump.specs.Wave.{low_bits}
use Rattle.wave_dump.proofs.WritingLemmas.{bits_next, bits_end}
use Rattle.wave_dump.proofs.waver.bits_of.Goals as goal

pub loop-i-preserved : goal.loop-i-preserved
loop-i-preserved c =
    let inv = c.loop-i.invariant in
    record {
      count = search rules;
      text = bits_next c.loop-i.i c.loop-i.left c.loop-i.digits (low_bits 32 c.args.word) (omega arith) inv.count inv.text;
    }

pub returns : goal.returns
returns c = bits_end c.loop-i.i c.loop-i.left c.loop-i.digits (low_bits 32 c.args.word) (omega arith) c.loop-i.invariant.text
