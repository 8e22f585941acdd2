use Rattle.std.proofs.Common.{◌∙◌, sym, arith}
use Rattle.forec_lexer.proofs.Steps.{value_stops, value_large, value_goes, value_ends}
use Rattle.forec_lexer.proofs.numbers.value_in.Goals as goal

pub returns-then-digit-base : goal.returns-then-digit-base
returns-then-digit-base c =
    sym (c.loop-byte.invariant.same ∙ value_stops c.args.digits.now c.args.base c.loop-byte.value c.loop-byte.byte-index c.digit_of-digit.result (omega arith) c.digit_of-digit.ensures.value (omega arith))

pub returns-then-value : goal.returns-then-value
returns-then-value c =
    sym (c.loop-byte.invariant.same ∙ value_large c.args.digits.now c.args.base c.loop-byte.value c.loop-byte.byte-index c.digit_of-digit.result (omega arith) c.digit_of-digit.ensures.value (omega arith) (omega arith))

pub loop-byte-preserved : goal.loop-byte-preserved
loop-byte-preserved c = record {
  small = omega arith;
  same =
      c.loop-byte.invariant.same ∙ value_goes c.args.digits.now c.args.base c.loop-byte.value c.loop-byte.byte-index c.digit_of-digit.result (omega arith) c.digit_of-digit.ensures.value (omega arith) (omega arith);
}

pub returns : goal.returns
returns c = sym (c.loop-byte.invariant.same ∙ value_ends c.args.digits.now c.args.base c.loop-byte.value c.loop-byte.byte-index (omega arith))
