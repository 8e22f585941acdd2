use Rattle.std.proofs.Common.{◌≡◌, ℕ, ◌<◌, true, min, take, get_or}
use Rattle.std.specs.Char.{is_ascii_digit}
use Rattle.trace_rows.specs.Numbers.{digits_value}
use Rattle.trace_rows.proofs.numbers.digits_at.Given as goal

abbrev pub invariant-loop-i : goal.invariant-loop-i
invariant-loop-i l = record {
  digits : (k : ℕ) → k < l.i → is_ascii_digit (get_or l.text k 0) ≡ true;
  value : l.value ≡ min 10000000000 (digits_value (take l.i l.text));
}
