use Rattle.std.proofs.Common.{rules, ◌≡◌, ◌∙◌, get_or, arith, length-set, w32, to_z, of_z, pos, false}
use Rattle.std.specs.Prelude.{None}
use Rattle.forec_base.specs.declared.Policy.TheVariants.{All}
use Rattle.tick_jobs.proofs.Copies.{start_more}
use Rattle.tick_jobs.proofs.job.write_start.Goals as goal

pub loop-i-preserved : goal.loop-i-preserved
loop-i-preserved c =
    let copies = c.loop-i.copies in
    let variables = c.args.variables.now in
    let x = get_or variables c.loop-i.i (record { policy = All; combine = None; start = pos 0; input = false }) in
    let value : to_z w32 (of_z w32 x.start) ≡ x.start = search rules in
    record {
      long = length-set _ _ _ ∙ c.loop-i.invariant.long;
      front = start_more variables copies c.loop-i.i _ _ (omega arith) (omega (arith, c.loop-i.invariant.long)) value c.loop-i.invariant.front;
    }
