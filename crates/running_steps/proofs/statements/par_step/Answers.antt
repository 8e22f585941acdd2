use Rattle.std.proofs.Common.{◌≡◌, map, ap}
use Rattle.forec_kernel.specs.Plain.{branch}
use Rattle.forec_kernel.specs.Texts.{Fork}
use Rattle.running_steps.specs.Moving.{origin_in, owner_in}
use Rattle.running_steps.proofs.Stepping.{fork_ok}
use Rattle.running_steps.proofs.statements.par_step.Goals as goal

pub returns-in-Ok-pay : goal.returns-in-Ok-pay
returns-in-Ok-pay c = λ R.
    let list : c.deref.result.now ≡ c.in-Ok.arguments.items = c.deref.ensures.value in
    fork_ok (origin_in c.args.values.now R) _ _ _ (owner_in c.args.kernel.now c.args.values.now)
    (map branch c.args.branches.now) _ _ _ c.in-Ok.ensures c.in-Ok-pay.ensures.ok (ap Fork (rw list at c.in_ok-children-in-Ok-pay.ensures))
