use Rattle.std.proofs.Common.{◌≡◌, ◌≤◌, drop}
use Rattle.forec_lexer.specs.Reading.{value_from}
use Rattle.forec_lexer.proofs.numbers.value_in.Given as goal

abbrev pub invariant-loop-byte : goal.invariant-loop-byte
invariant-loop-byte l = record {
  small : l.value ≤ 4294967295;
  same : value_from l.base 0 l.digits ≡ value_from l.base l.value (drop l.byte-index l.digits);
}
