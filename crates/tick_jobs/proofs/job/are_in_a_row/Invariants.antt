use Rattle.std.proofs.Common.{◌≡◌, take}
use Rattle.tick_jobs.specs.Jobs.{follow_each_other}
use Rattle.tick_jobs.proofs.job.are_in_a_row.Given as goal

abbrev pub invariant-loop-i : goal.invariant-loop-i
invariant-loop-i l = record {
  told : l.follow ≡ follow_each_other (take l.i l.inputs);
}
