use Rattle.std.proofs.Common.{◌≡◌, ◌∙◌, ap, is_ok, true, not}
use Rattle.forec_kernel.specs.Shapes.{plain_kernel}
use Rattle.forec_kernel.specs.Values.{setting}
use Rattle.running_texts.specs.Metered.{sight_of}
use Rattle.running_steps.proofs.Arguments.{lists_more, lists_stop, lists_same, launches_next, items_push}
use Rattle.running_steps.proofs.statements.arguments_of.Goals as goal

pub loop-launch-preserved : goal.loop-launch-preserved
loop-launch-preserved c =
    let ok : is_ok c.push.result ≡ true = c.is_err.ensures.negation ∙ ap not c.if-is_err.false in
    let pushed = rw ok at c.push.ensures.items in
    let args : c.deref.result.now ≡ c.launch-item.result.args.items = c.deref.ensures.value in
    lists_more _ _ _ _ _ _ _ _ _
    (lists_same _ _ _ _ _ _ c.loop-launch.invariant
    (launches_next (setting (plain_kernel c.args.kernel.now)) (sight_of c.args.values.now) c.args.branches.now c.loop-launch.launch-index c.launch-item.result c.loop-launch-test.true c.launch-item.is))
    (rw args at c.in-Ok.ensures) (items_push _ _ _ pushed)

pub returns-in-Err : goal.returns-in-Err
returns-in-Err c =
    let args : c.deref.result.now ≡ c.launch-item.result.args.items = c.deref.ensures.value in
    lists_stop _ _ _ _ _ _ _ _
    (lists_same _ _ _ _ _ _ c.loop-launch.invariant
    (launches_next (setting (plain_kernel c.args.kernel.now)) (sight_of c.args.values.now) c.args.branches.now c.loop-launch.launch-index c.launch-item.result c.loop-launch-test.true c.launch-item.is))
    (rw args at c.in-Err.ensures)
