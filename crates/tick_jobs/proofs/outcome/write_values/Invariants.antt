use Rattle.std.proofs.Common.{◌≡◌, length, take}
use Rattle.forec_kernel.specs.Ticks.{values_of}
use Rattle.forec_kernel.specs.WellFormed.{count_up}
use Rattle.tick_jobs.proofs.outcome.write_values.Given as goal

abbrev pub invariant-loop-i : goal.invariant-loop-i
invariant-loop-i l = record {
  long : length l.values ≡ length l.variables;
  front : take l.i l.values ≡ values_of (count_up 0 (length l.copies)) l.copies (take l.i l.variables);
}
