use Rattle.std.proofs.Common.{◌≡◌, ℤ, List, length, take}
use Rattle.forec_kernel.specs.Solo.{unmarked_copies}
use Rattle.log_text.proofs.ValueLemmas.{Spaced}
use Rattle.log_text.proofs.values.read_values.Given as goal

abbrev pub invariant-loop-i : goal.invariant-loop-i
invariant-loop-i l = record {
  same : length l.copies ≡ length l.initial.copies;
  values : List ℤ;
  count : length values ≡ l.i;
  are : take l.i l.copies ≡ unmarked_copies values;
  read : Spaced l.bytes l.at values l.end;
}
