use Rattle.std.proofs.Common.{◌<◌, ◌∙◌, length, arith, length-set}
use Rattle.tick_jobs.proofs.Copies.{unmarked_same, unmarked_more}
use Rattle.tick_jobs.proofs.job.clear_marks.Goals as goal

pub loop-i-preserved : goal.loop-i-preserved
loop-i-preserved c =
    let copies = c.loop-i.copies in
    let lt : c.loop-i.i < length copies = omega (arith, c.loop-i.invariant.long) in
    record {
      long = length-set _ _ _ ∙ c.loop-i.invariant.long;
      values = unmarked_same copies c.loop-i.i _ lt ∙ c.loop-i.invariant.values;
      front = unmarked_more copies c.loop-i.i _ lt c.loop-i.invariant.front;
    }
