use Rattle.std.proofs.Common.{◌≡◌, length, take}
use Rattle.forec_kernel.specs.Ticks.{unmarked}
use Rattle.tick_jobs.proofs.job.clear_marks.Given as goal

abbrev pub invariant-loop-i : goal.invariant-loop-i
invariant-loop-i l = record {
  long : length l.copies ≡ length l.fn.copies;
  values : unmarked l.copies ≡ unmarked l.fn.copies;
  front : unmarked (take l.i l.copies) ≡ take l.i l.copies;
}
