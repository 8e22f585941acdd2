use Rattle.std.proofs.Common.{◌≡◌, length, drop}
use Rattle.forec_kernel.specs.Ticks.{with_row}
use Rattle.forec_kernel.specs.WellFormed.{count_up}
use Rattle.tick_jobs.proofs.job.write_each.Given as goal

abbrev pub invariant-loop-i : goal.invariant-loop-i
invariant-loop-i l = record {
  long : length l.copies ≡ length l.fn.copies;
  told : with_row (count_up 0 (length l.fn.copies)) (drop l.i l.inputs) (drop l.i l.row) l.copies ≡ with_row (count_up 0 (length l.fn.copies)) l.inputs l.row l.fn.copies;
}
