use Rattle.std.proofs.Common.{◌<◌, ◌-◌, get_or, arith}
use Rattle.tick_jobs.proofs.Copies.{below_at}
use Rattle.tick_jobs.proofs.InARow.{follow_step}
use Rattle.forec_base.specs.declared.limits.TheConstants.{MAX_GLOBALS}
use Rattle.tick_jobs.proofs.job.are_in_a_row.Goals as goal

pub overflow_add-follow : goal.overflow_add-follow
overflow_add-follow c =
    let b : get_or c.args.inputs.now (c.loop-i.i - 1) 0 < MAX_GLOBALS = below_at MAX_GLOBALS c.args.inputs.now (c.loop-i.i - 1) 0 c.requires.small (omega arith) in
    omega (arith, b)

pub loop-i-preserved : goal.loop-i-preserved
loop-i-preserved c = record {
  told = follow_step c.args.inputs.now c.loop-i.i 0 c.loop-i.follow (omega arith) (omega arith) c.loop-i.invariant.told;
}
