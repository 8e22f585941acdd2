use Rattle.std.proofs.Common.{◌≡◌, length, take}
use Rattle.forec_kernel.specs.Ticks.{start_copies}
use Rattle.tick_jobs.proofs.job.write_start.Given as goal

abbrev pub invariant-loop-i : goal.invariant-loop-i
invariant-loop-i l = record {
  long : length l.copies ≡ length l.variables;
  front : take l.i l.copies ≡ start_copies (take l.i l.variables);
}
